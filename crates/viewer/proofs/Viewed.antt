-- What a viewer reads in the text of an accepted export. Assumes nothing.
use mathlib.Core.Path.{◌≡◌, refl, sym, ap, ◌∙◌}
use mathlib.Core.Bool.{Bool, true, false, not}
use mathlib.Core.List.{List, [], ◌∷◌, ◌++◌}
use Prim.Native.Nat.{ℕ, zero, suc, ◌+◌, ◌*◌, ◌/◌, ◌%◌, ◌≤◌, ◌<◌}
use native.Mathlib.Omega.{arith}
use lib.Dec.{ltb}
use lib.ListN.{length, length-map, get_or, get_or-replicate, take}
use lib.Seq.{take-append_seam}
use borrow.Author.Tests.{eqb-true}
use Rattle.bits.specs.Bits.{◌is◌}
use Rattle.bits.proofs.Logic.{by_cases}
use Rattle.buffers.specs.Splice.{splice}
use Rattle.board.specs.declared.Board.{Board}
use Rattle.board.specs.Step.{line, verdict}
use Rattle.board.specs.Board.{sound_board}
use Rattle.board.proofs.Ways.{on}
use Rattle.records.specs.Records.{records}
use Rattle.records.proofs.Whole.{records_length}
use Rattle.frames.specs.Stamps.{stamps_of}
use Rattle.frames.specs.Frames.{identifier, header}
use Rattle.frames.proofs.Gaps.{stamps_length}
use Rattle.recording.specs.Wave.{Shot, shots_of, merged, wave_text, refusal_of, wave_refusal, exported_of, page_of}
use Rattle.recording.proofs.Shots.{unseen, first_is}
use Rattle.viewer.specs.Reader.{Frame, frames_in, written, shown_at, shown_before}
use Rattle.viewer.specs.Recordings.{Each, times_in, times, Tells, Reads, ExportReads}
use Rattle.viewer.proofs.Lines.{text_read}
use Rattle.viewer.proofs.Frames.{Levels, Rising, frames_of, shot_times, last_by, before_by, frames_written, frames_writable, frames_filled, frames_rise, rising_grows, frames_begin, frames_show, frames_changed, frames_ordered}
use Rattle.viewer.proofs.Shots.{shots_levels, merged_each, shots_none, shots_begin, shots_rise, shots_last}

module _ (b : Board) (events stamps : List ℕ) where
  abbrev shots : List Shot
  shots = merged (shots_of b (records events) (times_in stamps))

  abbrev frames : List Frame
  frames = frames_of unseen shots

  levels : Each Levels shots
  levels = merged_each Levels (shots_of b (records events) (times_in stamps)) (shots_levels b (records events) (times_in stamps))

  text_is : wave_text b events stamps ≡ header ++ written frames
  unfolding wave_text
  text_is = rw (← first_is b (records events) (times_in stamps), frames_written unseen shots)

  frames_are : frames_in (wave_text b events stamps) ≡ frames
  frames_are = rw text_is (text_read frames (frames_writable unseen shots levels))

  module _ (same : length (records events) ≡ length (stamps_of stamps)) where
    rise : Rising 0 (shot_times shots)
    rise = shots_rise b (records events) 0 (stamps_of stamps) same

    view : (time wire : ℕ) → wire < 9 → shown_at frames time (identifier + wire) ≡ get_or (last_by time unseen shots) wire 0
    view time wire small =
        let unknown : get_or unseen wire 0 ≡ 2 = get_or-replicate 9 wire 2 0 small in
        rw unknown at (frames_show 0 unseen shots time wire refl levels rise small)

    view_before : (time wire : ℕ) → 0 ≤ time → wire < 9 → shown_before frames time (identifier + wire) ≡ get_or (before_by time unseen shots) wire 0
    view_before zero wire start small = sym (get_or-replicate 9 wire 2 0 small)
    view_before (suc time) wire start small = view time wire small

    tells : Tells b events stamps frames
    tells =
        record {
          none = λ empty. rw (shots_none b (records events) (times_in stamps) empty);
          first = λ some. frames_begin shots 0 levels (shots_begin b (records events) 0 (stamps_of stamps) same some);
          grows = λ i more. rising_grows 0 (times frames) (frames_rise 0 unseen shots rise) i (rw length-map more);
          filled = frames_filled unseen shots;
          ordered = frames_ordered unseen shots levels;
          changed = frames_changed frames 0 unseen shots refl levels rise view_before;
          shown = λ some time.
              let last = shots_last b (records events) 0 (stamps_of stamps) time unseen same some (omega arith) in
              record { k = last.k; last = last.last; values = λ wire small. view time wire small ∙ ap (λ (values : List ℕ). get_or values wire 0) last.same };
        }

    reads : Reads b events stamps (wave_text b events stamps)
    reads = record { whole = rw frames_are text_is; tells = rw frames_are tells }

-- ---- an accepted export
-- none of the lines of refusals is true, nor that of the stamps
none_true : (p q r s t : Bool) → verdict (line p 35 ∷ line q 32 ∷ line r 36 ∷ line s 41 ∷ line t 40 ∷ []) ≡ 0 → s ≡ false
none_true true q r s t e = absurd (omega (arith, e))
none_true false true r s t e = absurd (omega (arith, e))
none_true false false true s t e = absurd (omega (arith, e))
none_true false false false true t e = absurd (omega (arith, e))
none_true false false false false t e = refl

stamped : (sound : Bool) (events stamps text room : ℕ) → refusal_of sound events stamps text room ≡ 0 → stamps ≡ 2 * (events / 4)
unfolding refusal_of
stamped sound events stamps text room e =
    eqb-true stamps (2 * (events / 4)) (on _ (none_true (not sound) (not (events % 4 is 0)) (ltb 16384 (events / 4)) (not (stamps is 2 * (events / 4))) (ltb room text) e))

accepted : (b : Board) (events stamps : List ℕ) (room : ℕ) → (exported_of b events stamps room).code ≡ 0 → wave_refusal b events stamps room ≡ 0
unfolding exported_of
accepted b events stamps room e =
    by_cases (wave_refusal b events stamps room is 0)
    (λ z. eqb-true (wave_refusal b events stamps room) 0 z)
    (λ z. rw z at e)

-- and its text stands at the start of the buffer
text_there : (b : Board) (events stamps old : List ℕ) → wave_refusal b events stamps (length old) ≡ 0
    → take (exported_of b events stamps (length old)).length (page_of b events stamps old) ≡ wave_text b events stamps
unfolding exported_of page_of splice
text_there b events stamps old e = rw e (take-append_seam (wave_text b events stamps) _)

pub export_reads : ExportReads
export_reads b events stamps old e =
    let none = accepted b events stamps (length old) e in
    let two = stamped (sound_board b) (length events) (length stamps) (length (wave_text b events stamps)) (length old) none in
    rw (text_there b events stamps old none) (reads b events stamps (omega (arith, two, records_length events, stamps_length stamps)))
