-- The laws of a listing that is written line by line, and of its tail. Assumes nothing.
use Rattle.std.specs.Prelude.{if◌then◌else◌}
use Rattle.std.specs.Simd.{first_chunks}
use Rattle.std.proofs.Common.{◌≡◌, ℕ, ◌+◌, ◌*◌, ◌/◌, ◌%◌, ◌<◌, ◌≤◌, Bool, true, false, List, [], ◌∷◌, ◌++◌, length, get_or, take, drop, refl, drop-drop, arith, length-drop, eq-eqb, ne_eqb}
use Rattle.buffers.specs.Splice.{has_room, if_room, Wrote}
use Rattle.buffers.specs.Text.{ascii}
use Rattle.buffers.specs.Rows.{row_of}
use Rattle.buffers.proofs.Chunks.{chunk_at}
use Rattle.buffers.proofs.Splices.{wrote_all, Writing, writing_part, writing_done}
use Rattle.text.specs.Listing.{after, listing_of, tail_of}

-- the listing of four bytes and more is the line of the first four, and the lines of the others
first_line : (number : ℕ) (bs : List ℕ) → 4 ≤ length bs
    → listing_of number bs
    ≡ row_of (number ∷ get_or (take 4 bs) 0 0 ∷ get_or (take 4 bs) 1 0 ∷ get_or (take 4 bs) 2 0 ∷ get_or (take 4 bs) 3 0 ∷ [])
    ++ listing_of (after number) (drop 4 bs)
unfolding listing_of
first_line number [] h = absurd (omega arith)
first_line number (a ∷ []) h = absurd (omega arith)
first_line number (a ∷ b ∷ []) h = absurd (omega arith)
first_line number (a ∷ b ∷ c ∷ []) h = absurd (omega arith)
first_line number (a ∷ b ∷ c ∷ d ∷ bs) h = refl

-- fewer than four bytes have no line
no_lines : (bs : List ℕ) (number : ℕ) → length bs < 4 → listing_of number bs ≡ []
unfolding listing_of
no_lines [] number h = refl
no_lines (a ∷ []) number h = refl
no_lines (a ∷ b ∷ []) number h = refl
no_lines (a ∷ b ∷ c ∷ []) number h = refl
no_lines (a ∷ b ∷ c ∷ d ∷ rest) number h = absurd (omega arith)

module _ (bs old : List ℕ) (at first : ℕ) where
  -- where the writer of the lines stands before record i
  pub record Before (out : List ℕ) (next number i : ℕ) : Type 0 where
    pub within : i ≤ length bs / 4
    pub room : next ≤ at + 105 * i
    pub rest : Writing old at (listing_of first bs) out next (listing_of number (drop (4 * i) bs))

  -- record i has its line
  pub turn : {out m : List ℕ} {next n number i : ℕ} {records : List (List ℕ)} → at + 105 * (length bs / 4) ≤ length old
      → records ≡ first_chunks 4 (length bs / 4) bs → i < length bs / 4 → Before out next number i
      → (let r = get_or records i [] in Wrote out next (if_room out next 105 (row_of (number ∷ get_or r 0 0 ∷ get_or r 1 0 ∷ get_or r 2 0 ∷ get_or r 3 0 ∷ []))) m n)
      → n ≤ next + 105
      → Before m n (after number) (i + 1)
  turn {out} {m} {next} {n} {number} {i} fits e h w row short =
      let more : 4 * i + 4 ≡ 4 * (i + 1) = omega arith in
      let line = first_line number (drop (4 * i) bs) (omega (arith, length-drop (4 * i) bs)) in
      record {
        within = omega arith;
        room = omega (arith, w.room);
        rest =
            writing_part w.rest (rw (drop-drop, more) at line) (wrote_all 105 (omega (arith, w.room, w.rest.long)) (rw (e, chunk_at 4 (length bs / 4) i bs h) at row))
            (omega (arith, w.room));
      }

  -- no record is left
  pub done : {out : List ℕ} {next number i : ℕ} → Before out next number i → length bs / 4 ≤ i → Wrote old at (listing_of first bs) out next
  done {out} {next} {number} {i} w h =
      writing_done w.rest (no_lines (drop (4 * i) bs) number (omega (arith, length-drop (4 * i) bs, w.within)))

-- ---- with room or without

-- what is written is no longer than the text
shorter : (b : Bool) (text : List ℕ) → length (if b then text else []) ≤ length text
shorter true text = omega arith
shorter false text = omega arith

pub at_most : (old : List ℕ) (at need : ℕ) (text : List ℕ) → length (if_room old at need text) ≤ length text
unfolding if_room
at_most old at need text = shorter (has_room old at need) text

-- of no text nothing is
empty : (text : List ℕ) → length text ≤ 0 → text ≡ []
empty [] h = refl
empty (a ∷ text) h = absurd (omega arith)

nothing : (old : List ℕ) (at need : ℕ) → if_room old at need [] ≡ []
nothing old at need = empty (if_room old at need []) (at_most old at need [])

-- ---- the tail

-- no bytes over: nothing is written
pub no_tail : (old : List ℕ) (at need bytes : ℕ) → bytes % 4 ≡ 0 → if_room old at need (tail_of bytes) ≡ []
unfolding tail_of
no_tail old at need bytes h = rw (eq-eqb (bytes % 4) 0 h, nothing)

-- bytes over: the line
pub some_tail : (bytes : ℕ) → (bytes % 4 ≡ 0 → ⊥) → tail_of bytes ≡ ascii "tail " ++ row_of (bytes % 4 ∷ [])
unfolding tail_of
some_tail bytes h = rw (ne_eqb (bytes % 4) 0 h)
