-- The goals of `buffers::row`, number by number. Assumes nothing.
use Rattle.std.proofs.Common.{arith}
use Rattle.buffers.proofs.Rows.{space, turn, done}
use Rattle.buffers.proofs.row.Goals as goal

pub digits-next-requires : goal.digits-next-requires
digits-next-requires c = omega (arith, space _ _ _ c.requires c.loop-i-test.true (c.type_inv.numbers c.loop-i.i) c.loop-i.invariant)

pub bounds-out-next : goal.bounds-out-next
bounds-out-next c = omega (arith, space _ _ _ c.requires c.loop-i-test.true (c.type_inv.numbers c.loop-i.i) c.loop-i.invariant)

pub overflow_add-next : goal.overflow_add-next
overflow_add-next c = omega (arith, space _ _ _ c.requires c.loop-i-test.true (c.type_inv.numbers c.loop-i.i) c.loop-i.invariant)

pub loop-i-preserved : goal.loop-i-preserved
loop-i-preserved c =
    rw c.separator.ensures
    (turn _ _ _ c.requires c.loop-i-test.true (c.type_inv.numbers c.loop-i.i) c.loop-i.invariant c.digits-next.ensures)

pub returns-clause-wrote : goal.returns-clause-wrote
returns-clause-wrote c = done _ _ _ c.loop-i.invariant c.loop-i-test.false
