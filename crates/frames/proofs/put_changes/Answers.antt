-- The goals of `frames::put_changes`, value by value. Assumes nothing.
use Rattle.std.proofs.Common.{rules}
use Rattle.frames.proofs.Changes.{pass, put, done}
use Rattle.frames.proofs.put_changes.Goals as goal
use Rattle.frames.proofs.put_changes.Goals.{then-value-shown, else-value-shown}

pub loop-i-preserved : goal.loop-i-preserved
loop-i-preserved c s v =
    let before = c.loop-i.invariant s v in
    elim c.if-value-shown.branch [
      | then-value-shown w ↦ rw (w.out-is, w.next-is) (put _ _ s v c.loop-i-test.true c.requires before w.if-value-shown.true w.put_value-next.ensures)
      | else-value-shown w ↦ rw (w.out-is, w.next-is) (pass _ _ s v c.loop-i-test.true before w.if-value-shown.false)
    ]

pub returns-clause-wrote : goal.returns-clause-wrote
returns-clause-wrote c = (done _ _ (search rules) (search rules) (c.loop-i.invariant (search rules) (search rules)) c.loop-i-test.false).0

pub returns-clause-upper_bound : goal.returns-clause-upper_bound
returns-clause-upper_bound c = (done _ _ (search rules) (search rules) (c.loop-i.invariant (search rules) (search rules)) c.loop-i-test.false).1
