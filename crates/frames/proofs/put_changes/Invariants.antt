-- The loop of `frames::put_changes`: its invariant is `Changing`. Assumes nothing.
use Rattle.std.proofs.Common.{◌≡◌, length}
use Rattle.frames.proofs.Changes.{Changing}
use Rattle.frames.proofs.put_changes.Given as goal

abbrev pub invariant-loop-i : goal.invariant-loop-i
invariant-loop-i l = (s : length l.fn.shown ≡ 9) (v : length l.fn.values ≡ 9) → Changing l.fn.shown l.fn.values s v l.fn.out l.at l.out l.next l.i
