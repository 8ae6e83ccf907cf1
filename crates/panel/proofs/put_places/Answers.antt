-- `panel::put_places` meets its contract. Assumes nothing.
use Rattle.std.proofs.Common.{rules, arith, length-take}
use Rattle.panel.proofs.Places.{there, turn, done}
use Rattle.panel.proofs.put_places.Goals as goal

pub loop-i-preserved : goal.loop-i-preserved
loop-i-preserved c =
    let few = length-take c.min-there.result c.args.chips.now in
    let first = c.put_port-next.ensures in
    let second = c.put_port-next-in-loop-i.ensures in
    turn _ _ _ _ c.requires (omega (arith, few, c.min-there.ensures)) c.loop-i-test.true c.loop-i.invariant first.wrote first.upper_bound second.wrote second.upper_bound

pub returns-clause-wrote : goal.returns-clause-wrote
returns-clause-wrote c =
    let few = length-take c.min-there.result c.args.chips.now in
    let all = done _ _ _ _ (omega (arith, few, c.min-there.ensures)) c.loop-i.invariant c.loop-i-test.false in
    rw (c.min-there.ensures, c.from.ensures, there c.args.board.now.size c.args.chips.now (search rules)) at all.0
