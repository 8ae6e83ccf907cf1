-- The goal of `text::size_in` at a number above 4. Assumes nothing.
use Rattle.std.proofs.Common.{sym}
use Rattle.text.proofs.Sizes.{beyond}
use Rattle.text.proofs.size_in.Goals as goal

pub returns-then-n-gt4-clause-sized : goal.returns-then-n-gt4-clause-sized
returns-then-n-gt4-clause-sized c = sym (beyond c.loop-d-test.true c.loop-d.invariant (rw c.from.ensures at c.if-n-gt4.true))

pub returns-then-n-gt4-clause-value : goal.returns-then-n-gt4-clause-value
returns-then-n-gt4-clause-value c = rw (beyond c.loop-d-test.true c.loop-d.invariant (rw c.from.ensures at c.if-n-gt4.true))
