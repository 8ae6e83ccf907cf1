-- What `panel::put_places` keeps from chip to chip is `Before`. Assumes nothing.
use Rattle.panel.proofs.Places.{Before}
use Rattle.panel.proofs.put_places.Given as goal

abbrev pub invariant-loop-i : goal.invariant-loop-i
invariant-loop-i l = Before l.board l.c-items l.fn.out l.at l.out l.next l.i
