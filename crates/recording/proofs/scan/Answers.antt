-- `recording::scan`: the loop, and its end behind the header.
-- Assumes nothing.
use Rattle.std.proofs.Common.{◌≡◌, ◌∙◌, sym, ◌+◌, ◌*◌, ◌/◌, ◌<◌, length, get_or, arith}
use Rattle.board.proofs.Steps.{kept_begins}
use Rattle.recording.proofs.Scans.{begin, passes, shown_turn, done, headed}
use Rattle.recording.proofs.scan.Goals.{then-gap-ne0, else-gap-ne0}
use Rattle.recording.proofs.scan.Goals as goal

pub loop-i-init : goal.loop-i-init
loop-i-init c = begin _ _ _ _ _ _ (kept_begins _ _ c.requires.seen_value.1 (sym c.requires.seen_value.0))

pub loop-i-preserved : goal.loop-i-preserved
loop-i-preserved c =
    let more = rw c.as_chunks.ensures.front_len at c.loop-i-test.true in
    let events : length c.args.events.now ≡ 4 * (length c.args.events.now / 4) = omega (arith, c.requires.events_len.0) in
    let byte : get_or c.args.events.now (4 * c.loop-i.i + 2) 0 < 256 = omega (arith, c.type_inv.events (4 * c.loop-i.i + 2)) in
    let cut = c.as_chunks.ensures.front in
    let step = c.advance-answer.ensures in
    let gap = c.gap_after-gap.ensures in
    elim c.if-gap-ne0.branch [
      | then-gap-ne0 w ↦
          rw (w.out-is, w.next-is, w.shown-is)
          (shown_turn _ _ _ _ _ _ _ _ _ _ _ _ c.loop-i.invariant more events c.requires.events_len.1.1 byte _ cut _ _ _ step _ gap.0 gap.1 w.if-gap-ne0.true _ w.values-values.ensures _ w.show-next.ensures.value.0 w.show-next.ensures.value.1 _ w.show-next.auto.out w.show-next.ensures.out_after)
      | else-gap-ne0 w ↦
          rw (w.out-is, w.next-is, w.shown-is)
          (passes _ _ _ _ _ _ _ _ _ _ _ _ c.loop-i.invariant more events c.requires.events_len.1.1 byte _ cut _ _ _ step _ gap.0 w.if-gap-ne0.false)
    ]

pub returns : goal.returns
returns c =
    let events : length c.args.events.now ≡ 4 * (length c.args.events.now / 4) = omega (arith, c.requires.events_len.0) in
    let all = done _ _ _ _ _ c.loop-i.invariant (rw c.as_chunks.ensures.front_len at c.loop-i-test.false) events in
    let text = headed _ _ _ _ (length c.args.events.now / 4) _ _ c.put_header.ensures c.put_header.auto.out all.1.0 all.1.1 in
    record { value = text.0; board_after = all.0; out_len_unchanged = c.loop-i.auto.out ∙ c.put_header.auto.out; out_after = text.1 }
