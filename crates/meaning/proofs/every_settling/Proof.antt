-- The statement about settling has its proof.
use Rattle.meaning.proofs.every_settling.Statement.{statement}
use Rattle.meaning.proofs.every_settling.Tie as tie
use Rattle.meaning.proofs.Settling.{settles}

pub every_settling_spec : {M : Type 1} → statement M
every_settling_spec = tie.close (tie.spec (λ c. settles))
