-- `chain::caller`'s loop: the search from here on gives the whole answer.
-- Assumes nothing.
use Rattle.chain.specs.Marks.{caller_of}
use Rattle.chain.proofs.Scans.{Searching}
use Rattle.chain.proofs.caller.Given as goal

abbrev pub invariant-loop-i : goal.invariant-loop-i
invariant-loop-i l = Searching caller_of l.mark-items l.i
