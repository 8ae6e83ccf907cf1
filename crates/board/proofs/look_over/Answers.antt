-- `board::look_over`: what each chip adds, and the end.
-- Assumes nothing.
use Rattle.std.proofs.Common.{rules, refl, arith, length-take}
use Rattle.board.proofs.Loops.{look_begins, look_turns, look_ends}
use Rattle.board.proofs.Steps.{looked}
use Rattle.board.proofs.look_over.Goals as goal

pub loop-k-init : goal.loop-k-init
loop-k-init c = look_begins _ _ _ (search rules) c.unmarked-marks.ensures

pub loop-k-preserved : goal.loop-k-preserved
loop-k-preserved c =
    let l = length-take c.min.result c.args.board.now.chips in
    look_turns _ _ c.min.result _ _ _ c.loop-k.invariant (omega (arith, l, c.min.ensures)) (omega (arith, l)) (omega (arith, l)) c.sound-sound.ensures c.stirred-due.ensures c.marked-more.ensures

pub returns : goal.returns
returns c =
    let l = length-take c.min.result c.args.board.now.chips in
    let all = look_ends _ _ 4 c.loop-k.invariant (search rules) (omega (arith, l, c.min.ensures)) in
    (looked _ _ _ _ _ _ _ refl refl all.0 all.1.0 all.1.1 c.caller.ensures, search rules)
