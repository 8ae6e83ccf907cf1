use Rattle.sessions.specs.Sessions.{rows}
use Rattle.sessions.proofs.sessions_hold.Statement.{statement}
use Rattle.sessions.proofs.sessions_hold.Tie as tie
use Rattle.sessions.proofs.Rows.{together}
use Rattle.sessions.proofs.Sessions.{each_row}
use Rattle.sessions.proofs.Slips.{slips_missed}

returns : tie.Need-returns
returns c = (together rows each_row, slips_missed)

pub sessions_hold_spec : {M : Type 1} → statement M
sessions_hold_spec = tie.close (tie.spec returns)
