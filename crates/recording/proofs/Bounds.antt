-- How long a text can be: 39 bytes for each record, and the header.
-- Assumes nothing.
use Rattle.std.specs.Prelude.{if◌then◌else◌}
use mathlib.Core.Path.{◌≡◌, refl}
use mathlib.Core.Bool.{Bool, true, false, not}
use mathlib.Core.List.{List, [], ◌∷◌, ◌++◌}
use Prim.Native.Nat.{ℕ, zero, suc, ◌+◌, ◌*◌, ◌/◌, ◌%◌, ◌^◌, ◌≤◌, ◌<◌}
use native.Mathlib.Omega.{arith}
use lib.ListN.{length, length-append, take}
use lib.Dec.{ltb}
use borrow.Author.Tests.{eqb-true, eqb-false, ltb-true, ltb-false}
use Rattle.bits.specs.Bits.{◌is◌}
use Rattle.bits.proofs.Logic.{by_cases}
use Rattle.buffers.specs.Digits.{digits_of}
use Rattle.buffers.proofs.Decimals.{length_below}
use Rattle.port.specs.declared.Port.{Port}
use Rattle.chip.specs.declared.Chip.{Chip}
use Rattle.chain.specs.Chain.{flat}
use Rattle.board.specs.declared.Board.{Board}
use Rattle.board.specs.Board.{sound_board}
use Rattle.board.specs.Step.{line, verdict, step_of}
use Rattle.board.proofs.Ways.{on}
use Rattle.records.specs.Records.{records}
use Rattle.records.proofs.Whole.{records_length}
use Rattle.frames.specs.Stamps.{stamps_of, times_of, gap_in}
use Rattle.frames.proofs.Gaps.{stamps_length}
use Rattle.frames.specs.Values.{readies, values_of}
use Rattle.frames.specs.Frames.{identifier, header, time_line, value_line, changed_lines, later_frame}
use Rattle.recording.specs.Wave.{shot_of, shots_of, merged, later_frames, frames, wave_text, refusal_of, wave_refusal, exported_of}
use Rattle.recording.proofs.Shots.{shows, hides, unseen, first_is}

-- ---- one time
line_bound : (same : Bool) (character value : ℕ) → length (if same then [] else value_line character value) ≤ 3
unfolding value_line
line_bound true character value = omega arith
line_bound false character value = omega arith

value_lines : (character : ℕ) (shown values : List ℕ) → length (changed_lines character shown values) ≤ 3 * length values
unfolding changed_lines
value_lines character [] values = omega arith
value_lines character (s ∷ ss) [] = omega arith
value_lines character (s ∷ ss) (v ∷ vs) =
    omega (
      arith,
      line_bound (v is s) character v,
      value_lines (suc character) ss vs,
      length-append (if v is s then [] else value_line character v) (changed_lines (suc character) ss vs),
    )

pub nine : (size : ℕ) (chips : List Chip) (request : ℕ) → length (values_of size chips request) ≡ 9
unfolding values_of
nine size chips request = rw (eight 8 (flat (take size chips)))
  where
    eight : (n : ℕ) (ps : List Port) → length (readies n ps) ≡ n
    eight zero ps = refl
    eight (suc n) [] = rw (eight n [])
    eight (suc n) (p ∷ ps) = rw (eight n ps)

pub frame_bound : (time : ℕ) (shown values : List ℕ) → time < 10 ^ 10 → length values ≡ 9 → length (later_frame time shown values) ≤ 39
unfolding later_frame time_line
frame_bound time shown values t v =
    let text = changed_lines identifier shown values in
    by_cases (length text is 0)
    (λ e. rw e (omega arith))
    (λ e. rw e (omega (arith, value_lines identifier shown values, length_below 9 time (omega arith), length-append (35 ∷ [] ++ digits_of time ++ (10 ∷ [])) text, length-append (35 ∷ [] ++ digits_of time) (10 ∷ []), length-append (35 ∷ []) (digits_of time))))

-- ---- all times
gap_bound : (ss : List ℕ) → gap_in ss ≤ 65536
unfolding gap_in
gap_bound [] = omega arith
gap_bound (s ∷ []) = omega arith
gap_bound (s ∷ t ∷ ss) = omega arith

later_bound : (b : Board) (es : List (List ℕ)) (time : ℕ) (ss shown : List ℕ) → length es ≡ length ss → time + 65536 * length ss < 10 ^ 10
    → length (later_frames shown (merged (shots_of b es (times_of time ss)))) ≤ 39 * length es
unfolding later_frames shots_of merged
later_bound b [] time ss shown h small = omega arith
later_bound b (e ∷ es) time [] shown h small = absurd (omega (arith, h))
later_bound b (e ∷ es) time (s ∷ ss) shown h small =
    let gap = gap_in (s ∷ ss) in
    let same : length es ≡ length ss = omega (arith, h) in
    let low = gap_bound (s ∷ ss) in
    by_cases (gap is 0)
    (λ z. rw (hides b e time s es ss same (eqb-true gap 0 z)) (omega (arith, later_bound (step_of b e).board es (time + gap) ss shown same (omega (arith, low, small)))))
    (λ z.
    let x = step_of b e in
    let values = (shot_of time x).values in
    rw (shows b e time s es ss same (eqb-false gap 0 z))
    (omega (
      arith,
      frame_bound time shown values (omega (arith, small)) (nine x.board.size x.board.chips x.answer.request),
      later_bound x.board es (time + gap) ss values same (omega (arith, low, small)),
      length-append (later_frame time shown values) (later_frames values (merged (shots_of x.board es (times_of (time + gap) ss)))),
    )))

pub header_long : length header ≡ 257
unfolding header
header_long = refl

pub wave_bound : (b : Board) (events stamps : List ℕ) → length events / 4 ≤ 16384 → length stamps ≡ 2 * (length events / 4)
    → length (wave_text b events stamps) ≤ 257 + 39 * (length events / 4)
unfolding wave_text
wave_bound b events stamps few h =
    let shots = merged (shots_of b (records events) (times_of 0 (stamps_of stamps))) in
    let counted = records_length events in
    let same : length (records events) ≡ length (stamps_of stamps) = omega (arith, counted, stamps_length stamps, h) in
    rw (← first_is b (records events) (times_of 0 (stamps_of stamps)))
    (omega (
      arith,
      header_long,
      counted,
      later_bound b (records events) 0 (stamps_of stamps) unseen same (omega (arith, few, counted, same)),
      length-append header (later_frames unseen shots),
    ))

-- and how short: the header alone
pub wave_least : (b : Board) (events stamps : List ℕ) → 257 ≤ length (wave_text b events stamps)
unfolding wave_text
wave_least b events stamps =
    omega (arith, header_long, length-append header (frames (merged (shots_of b (records events) (times_of 0 (stamps_of stamps))))))

-- ---- with that room no export is refused with 40
-- a 40 comes last: there are not too many records, each has its stamp, and the text is longer than the buffer
last : (p q r s t : Bool) → verdict (line p 35 ∷ line q 32 ∷ line r 36 ∷ line s 41 ∷ line t 40 ∷ []) ≡ 40 → (r ≡ false) × ((s ≡ false) × (t ≡ true))
last true q r s t e = absurd (omega (arith, e))
last false true r s t e = absurd (omega (arith, e))
last false false true s t e = absurd (omega (arith, e))
last false false false true t e = absurd (omega (arith, e))
last false false false false true e = (refl, (refl, refl))
last false false false false false e = absurd (omega (arith, e))

late : (b : Board) (events stamps : List ℕ) (room : ℕ) → 257 + 39 * (length events / 4) ≤ room → wave_refusal b events stamps room ≡ 40 → ⊥
unfolding refusal_of
late b events stamps room h q =
    let long = length (wave_text b events stamps) in
    let tests = last (not (sound_board b)) (not (length events % 4 is 0)) (ltb 16384 (length events / 4)) (not (length stamps is 2 * (length events / 4))) (ltb room long) q in
    let counted = ltb-false 16384 (length events / 4) tests.0 in
    let stamped = eqb-true (length stamps) (2 * (length events / 4)) (on _ tests.1.0) in
    absurd (omega (arith, h, ltb-true room long tests.1.1, wave_bound b events stamps counted stamped))

pub never_forty : (b : Board) (events stamps : List ℕ) (room : ℕ) → 257 + 39 * (length events / 4) ≤ room → (exported_of b events stamps room).code ≡ 40 → ⊥
unfolding exported_of
never_forty b events stamps room h e =
    by_cases (wave_refusal b events stamps room is 0)
    (λ z. absurd (omega (arith, rw z at e)))
    (λ z. late b events stamps room h (rw z at e))
