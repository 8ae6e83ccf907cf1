-- `plans::freed`: somebody is under service where a RETI ends.
-- Assumes nothing.
use Rattle.plans.proofs.Ways.{frees_held}
use Rattle.plans.proofs.freed.Goals as goal

pub returns : goal.returns
returns c = frees_held _ _ _ _ c.reti.ensures _ c.if-not-reti.false c.in_ok-place.ensures
