-- `viewer::one_writing` meets its contract. Assumes nothing.
use Rattle.buffers.proofs.Splices.{wrote_same}
use Rattle.viewer.proofs.one_writing.Statement.{statement}
use Rattle.viewer.proofs.one_writing.Tie as tie

pub one_writing_spec : {M : Type 1} → statement M
one_writing_spec = tie.close (tie.spec (λ c old new other block at next index. wrote_same))
