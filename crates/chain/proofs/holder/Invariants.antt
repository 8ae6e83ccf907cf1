-- `chain::holder`'s loop: the search from here on gives the whole answer.
-- Assumes nothing.
use Rattle.chain.specs.Marks.{holder_of}
use Rattle.chain.proofs.Scans.{Searching}
use Rattle.chain.proofs.holder.Given as goal

abbrev pub invariant-loop-i : goal.invariant-loop-i
invariant-loop-i l = Searching holder_of l.mark-items l.i
