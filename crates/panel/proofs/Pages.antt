-- The laws of the panel's pages, written record by record. Assumes nothing.
use Rattle.std.proofs.Common.{◌≡◌, ℕ, ◌+◌, ◌*◌, ◌/◌, ◌%◌, ◌^◌, ◌<◌, ◌≤◌, List, [], length, get_or, take, drop, refl, ap, arith}
use Rattle.std.specs.Simd.{first_chunks}
use Rattle.buffers.specs.Splice.{if_room, Wrote}
use Rattle.buffers.proofs.Chunks.{chunk_at}
use Rattle.buffers.proofs.Splices.{wrote_all, wrote_then, Writing, writing_all, writing_part, writing_done}
use Rattle.board.specs.declared.Board.{Board}
use Rattle.board.specs.declared.Answer.{Answer}
use Rattle.board.specs.Board.{ports}
use Rattle.board.specs.Step.{bytes_of, step_of, Stepped}
use Rattle.records.specs.Records.{records, steps_of}
use Rattle.records.proofs.Turns.{next as record_at, none}
use Rattle.text.specs.Listing.{after, listing_of, tail_of}
use Rattle.panel.specs.Text.{places_of, page_of, pages_of, text_of}

-- a line and the places behind it are a page
pub page : {out m m' bytes : List ℕ} {at n n' : ℕ} {answer : Answer} {b : Board} (number : ℕ) (s : Stepped) → bytes ≡ bytes_of answer → answer ≡ s.answer
    → b ≡ s.board → at + 3465 ≤ length out → Wrote out at (if_room out at (105 * (length bytes / 4)) (listing_of number bytes)) m n
    → n ≤ at + 105 * (length bytes / 4) → Wrote m n (places_of b 0 (ports b)) m' n' → Wrote out at (page_of number s) m' n'
unfolding page_of bytes_of
page {out} {m} {m'} {bytes} {at} {n} {n'} {answer} {b} number s e ea eb room line short places =
    let four : length bytes ≡ 4 = ap length e in
    rw (← eb, ← ea, ← e) (wrote_then (omega arith) (wrote_all (105 * (length bytes / 4)) (omega (arith, four)) line) places)

-- ---- the records from record i on
module _ (es old : List ℕ) (b₀ : Board) (number : ℕ) where
  -- where the panel stands before record i
  pub record Before (out : List ℕ) (b : Board) (line next i : ℕ) : Type 0 where
    pub within : i ≤ length es / 4
    pub room : next ≤ 3465 * i
    pub lines : line ≡ (number + i) % 2 ^ 64
    pub board : steps_of b (records (drop (4 * i) es)) ≡ steps_of b₀ (records es)
    pub rest : Writing old 0 (pages_of b₀ number (records es)) out next (pages_of b line (records (drop (4 * i) es)))

  -- before the first record
  pub begin : number < 2 ^ 64 → Before old b₀ number 0 0
  begin small =
      record { within = omega arith; room = omega arith; lines = omega arith; board = refl; rest = writing_all old 0 (pages_of b₀ number (records es)) }

  -- record i has its page
  pub turn : {out m : List ℕ} {b b' : Board} {line line' next n i : ℕ} {chunks : List (List ℕ)} → 3465 * (length es / 4) ≤ length old
      → chunks ≡ first_chunks 4 (length es / 4) es → i < length es / 4 → Before out b line next i
      → (b' ≡ (step_of b (get_or chunks i [])).board) × (line' ≡ after line)
      → Wrote out next (page_of line (step_of b (get_or chunks i []))) m n → n ≤ next + 3465
      → Before m b' line' n (i + 1)
  unfolding steps_of pages_of
  turn {out} {m} {b} {b'} {line} {line'} {next} {n} {i} {chunks} fits e h w on put few =
      let event : get_or chunks i [] ≡ take 4 (drop (4 * i) es) = rw e (chunk_at 4 (length es / 4) i es h) in
      let more = record_at es i (omega arith) in
      record {
        within = omega arith;
        room = omega (arith, w.room);
        lines = omega (arith, on.1, w.lines);
        board = rw (on.0, event, ← w.board, more);
        rest = rw (on.0, on.1, event) (writing_part w.rest (rw more) (rw event at put) (omega (arith, w.room)));
      }

  -- no record is left: the tail behind the pages makes the panel's text
  pub done : {out m : List ℕ} {b : Board} {line next n i : ℕ} → 3465 * (length es / 4) + 26 ≤ length old → Before out b line next i → length es / 4 ≤ i
      → Wrote out next (if_room out next 26 (tail_of (length es))) m n → n ≤ next + 26
      → (b ≡ steps_of b₀ (records es))
      × ((line ≡ (number + length es / 4) % 2 ^ 64) × (Wrote old 0 (text_of b₀ number es) m n × (n ≤ 3465 * (length es / 4) + 26)))
  unfolding steps_of pages_of text_of
  done {out} {m} {b} {line} {next} {n} {i} fits w h tail few =
      let e = none es i (omega arith) in
      let i-is : i ≡ length es / 4 = omega (arith, w.within) in
      let text = wrote_then (omega arith) (writing_done w.rest (rw e)) (wrote_all 26 (omega (arith, w.room, w.within, w.rest.long)) tail) in
      (rw e at w.board, (rw i-is at w.lines, (text, omega (arith, w.room, w.within))))
