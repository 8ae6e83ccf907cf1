-- The loop of `buffers::row`: its invariant is `Before`. Assumes nothing.
use Rattle.std.proofs.Common.{◌-◌, length}
use Rattle.buffers.proofs.Rows.{Before}
use Rattle.buffers.proofs.row.Given as goal

abbrev pub invariant-loop-i : goal.invariant-loop-i
invariant-loop-i l = Before l.numbers l.fn.out l.at l.out l.next l.i

abbrev pub decreases-loop-i : goal.decreases-loop-i
decreases-loop-i l = length l.numbers - l.i
