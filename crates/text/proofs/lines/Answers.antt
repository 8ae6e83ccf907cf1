-- The goals of `text::lines`, line by line. Assumes nothing.
use Rattle.text.proofs.Listings.{turn, done}
use Rattle.text.proofs.lines.Goals as goal

pub loop-code-preserved : goal.loop-code-preserved
loop-code-preserved c =
    turn _ _ _ _ c.requires c.as_chunks.ensures.front (rw c.as_chunks.ensures.front_len at c.loop-code-test.true) c.loop-code.invariant
    (rw (c.from.ensures, c.from-in-loop-code.ensures, c.from-in-loop-code-2.ensures, c.from-in-loop-code-3.ensures) at c.put_row-next.ensures.wrote)
    c.put_row-next.ensures.upper_bound

pub returns-clause-wrote : goal.returns-clause-wrote
returns-clause-wrote c = done _ _ _ _ c.loop-code.invariant (rw c.as_chunks.ensures.front_len at c.loop-code-test.false)
