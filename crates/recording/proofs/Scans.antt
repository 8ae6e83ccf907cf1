-- One turn of the scan over all records, and its end: what the loop's proof cites.
-- Assumes nothing.
use Rattle.std.specs.Simd.{first_chunks}
use mathlib.Core.Path.{◌≡◌, refl, sym, ap, subst, ◌∙◌}
use mathlib.Core.Bool.{true}
use mathlib.Core.List.{List, [], ◌∷◌, ◌++◌}
use lib.Dec.{ltb}
use borrow.Author.Tests.{lt-ltb}
use Prim.Native.Nat.{ℕ, ◌+◌, ◌*◌, ◌≤◌, ◌<◌}
use native.Mathlib.Omega.{arith}
use lib.ListN.{length, length-append, length-drop, take, drop, get_or}
use lib.Seq.{length-take-le, get_or-take, get_or-drop}
use Rattle.buffers.specs.Splice.{splice, if_room, Wrote}
use Rattle.buffers.proofs.Splices.{room, splice_none, splice_next}
use Rattle.buffers.proofs.Chunks.{chunk_at}
use Rattle.board.specs.declared.Board.{Board}
use Rattle.board.specs.declared.Answer.{Answer}
use Rattle.board.specs.declared.Look.{Look}
use Rattle.board.specs.Step.{value_of, Stepped, step_of}
use Rattle.board.specs.Halves.{Advanced, advanced, advanced_of, stepped}
use Rattle.board.proofs.Kept.{Kept, advances, keeps}
use Rattle.records.specs.Records.{records, steps_of}
use Rattle.records.proofs.Turns.{next, none}
use Rattle.records.proofs.Whole.{records_length}
use Rattle.frames.specs.Stamps.{stamps_of, times_of, gap_from}
use Rattle.frames.specs.Values.{values_of}
use Rattle.frames.specs.Frames.{header, later_frame}
use Rattle.frames.proofs.Gaps.{stamps_next, stamps_length}
use Rattle.recording.specs.Wave.{Shot, shot_of, shots_of, merged, later_frames, wave_text}
use Rattle.recording.proofs.Shots.{shows, hides, unseen, first_is}
use Rattle.recording.proofs.Bounds.{header_long}

module _ (es ss old : List ℕ) (b₀ : Board) (n : ℕ) where
  -- what is left to show before record i
  abbrev left : Board → ℕ → ℕ → List Shot
  left b time i = merged (shots_of b (records (drop (4 * i) es)) (times_of time (stamps_of (drop (2 * i) ss))))

  -- the text behind the header
  abbrev body : List ℕ
  body = later_frames unseen (left b₀ 0 0)

  -- where the loop stands before record i: what is left, shown from here, comes to the whole body behind the header, if there is room
  pub record Scanning (out : List ℕ) (b : Board) (l : Look) (at : ℕ) (shown : List ℕ) (time i : ℕ) : Type 0 where
    pub within : i ≤ n
    pub long : length out ≡ length old
    pub knows : Kept b l
    pub board : steps_of b (records (drop (4 * i) es)) ≡ steps_of b₀ (records es)
    pub ends : at + length (later_frames shown (left b time i)) ≡ 257 + length body
    pub bytes : 257 + length body ≤ length old → splice out at (later_frames shown (left b time i)) ≡ splice old 257 body
    pub clock : time ≤ 65536 * i
    pub near : at ≤ 257 + 49 * i

  -- before the first record
  pub begin : (l : Look) → Kept b₀ l → Scanning old b₀ l 257 unseen 0 0
  begin l k = record { within = omega arith; long = refl; knows = k; board = refl; ends = refl; bytes = λ fits. refl; clock = omega arith; near = omega arith }

  -- ---- record i
  module _ (out : List ℕ) (b : Board) (l : Look) (at : ℕ) (shown : List ℕ) (time i : ℕ) (w : Scanning out b l at shown time i) (more : i < n)
      (he : length es ≡ 4 * n) (hs : length ss ≡ 2 * n) (byte : get_or es (4 * i + 2) 0 < 256)
      (chunks : List (List ℕ)) (cut : chunks ≡ first_chunks 4 n es)
      (b' : Board) (l' : Look) (a : Answer) (ea : advanced b' l' a ≡ advanced_of b l (get_or chunks i [])) where
    abbrev event : List ℕ
    event = take 4 (drop (4 * i) es)

    four : length event ≡ 4
    four = length-take-le 4 (drop (4 * i) es) (omega (arith, he, more, length-drop (4 * i) es))

    small : ltb (value_of event) 256 ≡ true
    small = rw (get_or-take 4 (drop (4 * i) es) 2 0 (omega arith), get_or-drop (4 * i) es 2 0) (lt-ltb (get_or es (4 * i + 2) 0) 256 byte)

    went : advanced b' l' a ≡ advanced_of b l event
    went = ea ∙ rw (cut, chunk_at 4 n i es more)

    stepping : record { board = b'; answer = a } ≡ step_of b event
    stepping = ap stepped went ∙ advances b l w.knows event four

    known : Kept b' l'
    known = subst (λ (x : Advanced). Kept x.board x.look) (sym went) (keeps b l w.knows event four small)

    first : records (drop (4 * i) es) ≡ event ∷ records (drop (4 * (i + 1)) es)
    first = next es i (omega (arith, he, more))

    even : length (records (drop (4 * (i + 1)) es)) ≡ length (stamps_of (drop (2 * (i + 1)) ss))
    even =
        omega (
          arith,
          he,
          hs,
          records_length (drop (4 * (i + 1)) es),
          stamps_length (drop (2 * (i + 1)) ss),
          length-drop (4 * (i + 1)) es,
          length-drop (2 * (i + 1)) ss,
        )

    board_is : b' ≡ (step_of b event).board
    board_is = ap (λ (x : Stepped). x.board) stepping

    answer_is : a ≡ (step_of b event).answer
    answer_is = ap (λ (x : Stepped). x.answer) stepping

    left_shows : (gap_from ss i ≡ 0 → ⊥) → left b time i ≡ shot_of time (record { board = b'; answer = a }) ∷ left b' (time + gap_from ss i) (i + 1)
    left_shows =
        rw (board_is, answer_is, first, stamps_next ss i (omega (arith, hs, more)))
        (shows b event time _ (records (drop (4 * (i + 1)) es)) (stamps_of (drop (2 * (i + 1)) ss)) even)

    left_hides : gap_from ss i ≡ 0 → left b time i ≡ left b' (time + gap_from ss i) (i + 1)
    left_hides =
        rw (board_is, first, stamps_next ss i (omega (arith, hs, more)))
        (hides b event time _ (records (drop (4 * (i + 1)) es)) (stamps_of (drop (2 * (i + 1)) ss)) even)

    steps : steps_of b' (records (drop (4 * (i + 1)) es)) ≡ steps_of b₀ (records es)
    unfolding steps_of
    steps = rw (board_is, ← w.board, first)

    -- the next record has the same time
    pub passes : (gap : ℕ) → gap ≡ gap_from ss i → gap ≡ 0 → Scanning out b' l' at shown (time + gap) (i + 1)
    passes gap eg z =
        let same = left_hides (sym eg ∙ z) in
        record {
          within = omega arith;
          long = w.long;
          knows = known;
          board = steps;
          ends = rw (eg, ← same) w.ends;
          bytes = λ fits. rw (eg, ← same) (w.bytes fits);
          clock = omega (arith, w.clock, z);
          near = omega (arith, w.near);
        }

    -- it has another time, or there is none: this time is shown
    pub shown_turn : (gap : ℕ) → gap ≡ gap_from ss i → gap ≤ 65536 → (gap ≡ 0 → ⊥) → (values : List ℕ) → values ≡ values_of b'.size b'.chips a.request
        → (at' : ℕ) → at' ≡ at + length (later_frame time shown values) → at' ≤ at + 49
        → (out' : List ℕ) → length out' ≡ length out → out' ≡ splice out at (if_room out at (length (later_frame time shown values)) (later_frame time shown values))
        → Scanning out' b' l' at' values (time + gap) (i + 1)
    unfolding later_frames
    shown_turn gap eg small z values ev at' ea' near out' lo eo =
        let frame = later_frame time shown values in
        let rest = later_frames values (left b' (time + gap) (i + 1)) in
        let parts : later_frames shown (left b time i) ≡ frame ++ rest = rw (left_shows (λ q. z (eg ∙ q)), eg, ev) in
        let longs = length-append frame rest in
        record {
          within = omega arith;
          long = lo ∙ w.long;
          knows = known;
          board = steps;
          ends = omega (arith, ea', longs, w.ends, ap length parts);
          bytes = λ fits.
              let fits_here : at + length frame ≤ length out = omega (arith, fits, w.long, w.ends, longs, ap length parts) in
              rw (eo, room out at (length frame) frame fits_here, splice_next out at frame rest at' (omega (arith, fits_here)) (sym ea'), ← parts) (w.bytes fits);
          clock = omega (arith, w.clock, small);
          near = omega (arith, w.near, near);
        }

  -- the end: nothing is left
  pub done : {out : List ℕ} {b : Board} {l : Look} {at : ℕ} {shown : List ℕ} {time i : ℕ} → Scanning out b l at shown time i → n ≤ i → length es ≡ 4 * n
      → (b ≡ steps_of b₀ (records es)) × ((at ≡ 257 + length body) × (at ≤ length old → out ≡ splice old 257 body))
  unfolding steps_of shots_of merged later_frames
  done {out} {b} {l} {at} {shown} {time} {i} w h he =
      let e = none es i (omega (arith, he, h)) in
      let ends : at ≡ 257 + length body = omega (arith, rw e at w.ends) in
      (rw e at w.board, (ends, λ fits. sym (splice_none out at) ∙ (rw e at (w.bytes (omega (arith, fits, ends))))))

  -- and the header stands before it
  pub headed : (first : List ℕ) (r : ℕ) → Wrote first 0 (if_room first 0 257 header) old r → length old ≡ length first
      → {out : List ℕ} {at : ℕ} → at ≡ 257 + length body → (at ≤ length old → out ≡ splice old 257 body)
      → (at ≡ length (wave_text b₀ es ss)) × (at ≤ length first → out ≡ splice first 0 (wave_text b₀ es ss))
  unfolding wave_text header
  headed first r w l {out} {at} ends bytes =
      let same = first_is b₀ (records es) (times_of 0 (stamps_of ss)) in (
        rw (← same) (omega (arith, ends, header_long, length-append header body)),
        λ fits. rw (bytes (omega (arith, fits, l)), w.bytes, room first 0 257 header (omega (arith, fits, ends)), ← same)
            (splice_next first 0 header body 257 (omega arith) header_long),
      )
