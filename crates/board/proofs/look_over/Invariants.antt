-- `board::look_over`'s loop: what was seen of the chips before index k.
-- Assumes nothing.
use Rattle.board.proofs.Loops.{Looking}
use Rattle.board.proofs.look_over.Given as goal

abbrev pub invariant-loop-k : goal.invariant-loop-k
invariant-loop-k l = Looking l.n l.board.chips l.sound l.due l.marks l.k
