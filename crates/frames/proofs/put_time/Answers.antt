-- The goals of `frames::put_time`: what the line of a time comes to. Assumes nothing.
use Rattle.std.proofs.Common.{arith}
use Rattle.frames.proofs.Times.{timed}
use Rattle.frames.proofs.put_time.Goals as goal

pub bounds-out-next : goal.bounds-out-next
bounds-out-next c =
    let line = timed c.args.out.now c.args.time c.requires (omega arith) c.put_decimal-next.ensures in
    omega (arith, line.room, line.long)

pub overflow_add-result : goal.overflow_add-result
overflow_add-result c =
    let line = timed c.args.out.now c.args.time c.requires (omega arith) c.put_decimal-next.ensures in
    omega (arith, line.room)

pub returns-clause-wrote : goal.returns-clause-wrote
returns-clause-wrote c = (timed c.args.out.now c.args.time c.requires (omega arith) c.put_decimal-next.ensures).line

pub returns-clause-upper_bound : goal.returns-clause-upper_bound
returns-clause-upper_bound c = (timed c.args.out.now c.args.time c.requires (omega arith) c.put_decimal-next.ensures).room
