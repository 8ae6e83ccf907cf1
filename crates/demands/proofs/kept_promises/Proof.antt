-- Every statement that the contract names has its proof. Assumes nothing.
use Rattle.demands.proofs.kept_promises.Statement.{statement}
use Rattle.demands.proofs.kept_promises.Tie as tie
use Rattle.demands.proofs.Demand1.{four_bytes, not_four_bytes, every_run}
use Rattle.demands.proofs.Demand3.{from_fresh, from_sound, from_any, no_history}
use Rattle.demands.proofs.Asks.{who_is_asking}

returns : tie.Need-returns
returns c = ((four_bytes, not_four_bytes, every_run), ((from_fresh, from_sound, from_any, no_history), who_is_asking))

pub kept_promises_spec : {M : Type 1} → statement M
kept_promises_spec = tie.close (tie.spec returns)
