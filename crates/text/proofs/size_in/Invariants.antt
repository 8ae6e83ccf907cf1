-- The loop of `text::size_in`: its invariant is `Reading`. Assumes nothing.
use Rattle.text.proofs.Sizes.{Reading}
use Rattle.text.proofs.size_in.Given as goal

abbrev pub invariant-loop-d : goal.invariant-loop-d
invariant-loop-d l = Reading l.text l.n l.d-index
