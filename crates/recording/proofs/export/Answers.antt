-- `recording::export`: refused at once, refused when it was measured, or written.
-- Assumes nothing.
use Rattle.std.proofs.Common.{◌≡◌, ◌≤◌, ap, ◌∙◌, length, arith}
use Rattle.std.proofs.lemmas.Result.{err_from_is_err_and}
use Rattle.board.proofs.Ways.{seen_ok}
use Rattle.recording.specs.Wave.{wave_text}
use Rattle.recording.proofs.Bounds.{wave_least}
use Rattle.recording.proofs.Ways.{unmoved, unsound_refused, early_refused, long_refused, exported, roomy}
use Rattle.recording.proofs.export.Goals.{then-out-events+else-text-out, else-out-events}
use Rattle.recording.proofs.export.Goals as goal

pub returns-in_err-look : goal.returns-in_err-look
returns-in_err-look c =
    let all = unsound_refused c.args.board.now c.args.events.now c.args.stamps.now c.args.out.now _ c.in_err-look.ensures.0 in
    let why = err_from_is_err_and c.from_residual.result c.from_residual.ensures.1 in
    record { value = rw (why.1, why.2) all.0; out_after = all.1 }

pub returns-in_err-check : goal.returns-in_err-check
returns-in_err-check c =
    let sound = (seen_ok c.args.board.now _ c.in_ok-look.ensures.0).sound in
    let all = early_refused c.args.board.now c.args.events.now c.args.stamps.now c.args.out.now sound _ 257 (wave_least _ _ _) c.in_err-check.ensures.value in
    let why = err_from_is_err_and c.from_residual-in_err-check.result c.from_residual-in_err-check.ensures.1 in
    record { value = rw (why.1, why.2) all.0; out_after = all.1 }

pub returns-then-text-out : goal.returns-then-text-out
returns-then-text-out c =
    let sound = (seen_ok c.args.board.now _ c.in_ok-look.ensures.0).sound in
    let measured = c.scan-text in
    -- what was measured left the buffer as it was
    let same = unmoved measured.new.out c.args.out.now measured.ensures.out_len_unchanged in
    let all = long_refused c.args.board.now _ _ _ sound c.in_ok-check.ensures.passed (omega (arith, c.if-text-out.true, measured.ensures.value, ap length same)) in
    record { value = all.0; out_after = same ∙ all.1 }

pub returns : goal.returns
returns c =
    let sound = (seen_ok c.args.board.now _ c.in_ok-look.ensures.0).sound in
    let good = c.in_ok-check.ensures.passed in
    let shown = c.scan in
    let same : c.if-out-events.out ≡ c.args.out.now =
    elim c.if-out-events.branch [
      | then-out-events+else-text-out w ↦ w.out-is ∙ unmoved w.scan-text.new.out _ w.scan-text.ensures.out_len_unchanged
      | else-out-events w ↦ w.out-is
    ] in
    let fits : length (wave_text c.args.board.now c.args.events.now c.args.stamps.now) ≤ length c.args.out.now =
    elim c.if-out-events.branch [
      | then-out-events+else-text-out w ↦
          omega (
            arith,
            w.if-text-out.false,
            w.scan-text.ensures.value,
            ap length (unmoved w.scan-text.new.out c.args.out.now w.scan-text.ensures.out_len_unchanged),
          )
      | else-out-events w ↦ roomy c.args.board.now _ _ _ sound good w.if-out-events.false
    ] in
    let all = exported c.args.board.now _ _ _ sound good fits _ _ _ shown.ensures.board_after shown.ensures.value (rw same at shown.ensures.out_after) in
    record { value = all.0; out_after = all.1 }
