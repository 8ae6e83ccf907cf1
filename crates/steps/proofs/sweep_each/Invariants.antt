-- `steps::sweep_each`: the chips that were swept, and their marks.
-- Assumes nothing.
use Rattle.board.specs.Halves.{sweep_of}
use Rattle.board.proofs.Loops.{Sweeping}
use Rattle.steps.proofs.sweep_each.Given as goal

abbrev pub invariant-loop-k : goal.invariant-loop-k
invariant-loop-k l = Sweeping (sweep_of l.sweep) l.board.size l.old l.chips l.marks l.k
