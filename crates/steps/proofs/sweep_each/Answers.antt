-- `steps::sweep_each`: the loop, and its end.
-- Assumes nothing.
use Rattle.std.proofs.Common.{arith, rules}
use Rattle.board.proofs.Loops.{sweep_begins, sweep_turns, sweep_ends}
use Rattle.steps.proofs.Ways.{swept_is}
use Rattle.steps.proofs.sweep_each.Goals as goal

pub loop-k-init : goal.loop-k-init
loop-k-init c = sweep_begins _ _ _ _ (search rules) c.unmarked-marks.ensures

pub loop-k-preserved : goal.loop-k-preserved
loop-k-preserved c =
    sweep_turns _ _ _ _ _ c.loop-k.invariant (omega arith) (omega arith) c.sweep_chip-d.ensures c.marked-more.ensures

pub returns : goal.returns
returns c =
    rw c.into.ensures
    (swept_is c.args.board.now c.args.free c.args.sweep _ _ _ _ _ c.freed-old.ensures (sweep_ends _ _ _ 4 c.loop-k.invariant (search rules) (omega arith)) c.caller-request.ensures)
