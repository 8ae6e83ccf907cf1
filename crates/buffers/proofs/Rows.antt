-- The laws of a row that is written number by number. Assumes nothing.
use Rattle.std.specs.Prelude.{if◌then◌else◌}
use mathlib.Core.Path.{◌≡◌, sym}
use mathlib.Core.List.{List, [], ◌∷◌, ◌++◌, append-nil}
use Prim.Native.Nat.{ℕ, ◌+◌, ◌*◌, ◌-◌, ◌≤◌, ◌<◌}
use native.Mathlib.Numerals.{add-one}
use native.Mathlib.Omega.{arith}
use lib.ListN.{length, drop, set, get_or, length-drop, drop_of_length-le}
use lib.Seq.{drop-cons}
use mir.Val.{Fits}
use mir.Syntax.{w64}
use borrow.Author.Tests.{ne_eqb}
use Rattle.bits.specs.Bits.{◌is◌}
use Rattle.buffers.specs.Splice.{Wrote}
use Rattle.buffers.specs.Digits.{digits_of}
use Rattle.buffers.specs.Rows.{row_of}
use Rattle.buffers.proofs.Splices.{Writing, writing_part, writing_done, wrote_byte, wrote_then, wrote_length}
use Rattle.buffers.proofs.Decimals.{length_below}

-- a row is its first number, what stands behind it, and the row of the others
pub row_first : (n : ℕ) (ns : List ℕ) → row_of (n ∷ ns) ≡ digits_of n ++ ((if length ns is 0 then 10 else 32) ∷ []) ++ row_of ns
unfolding row_of
row_first n [] = sym (append-nil _)
row_first n (m ∷ ns) = rw (ne_eqb (length (m ∷ ns)) 0 (omega arith))

-- the same from number i on
row_from : (ns : List ℕ) (i : ℕ) → i < length ns
    → row_of (drop i ns) ≡ digits_of (get_or ns i 0) ++ ((if length ns - (i + 1) is 0 then 10 else 32) ∷ []) ++ row_of (drop (i + 1) ns)
row_from ns i h = rw (add-one, drop-cons ns i 0 h, ← length-drop) (row_first (get_or ns i 0) _)

module _ (ns old : List ℕ) (at : ℕ) where
  -- where the writer of a row stands before number i
  pub record Before (out : List ℕ) (next i : ℕ) : Type 0 where
    pub within : i ≤ length ns
    pub room : next ≤ at + 21 * i
    pub rest : Writing old at (row_of ns) out next (row_of (drop i ns))

  -- number i has room, with a byte behind it
  pub space : {out : List ℕ} {next i : ℕ} → at + 21 * length ns ≤ length old → i < length ns → Fits w64 (get_or ns i 0) → Before out next i
      → next + length (digits_of (get_or ns i 0)) < length out
  space {out} {next} {i} fits h small w = omega (arith, w.room, w.rest.long, length_below 19 (get_or ns i 0) (omega arith))

  -- number i was written, and what stands behind it
  pub turn : {out m : List ℕ} {next n i : ℕ} → at + 21 * length ns ≤ length old → i < length ns → Fits w64 (get_or ns i 0) → Before out next i
      → Wrote out next (digits_of (get_or ns i 0)) m n
      → Before (set m n (if length ns - (i + 1) is 0 then 10 else 32)) (n + 1) (i + 1)
  turn {out} {m} {next} {n} {i} fits h small w number =
      let enough = space fits h small w in
      let long = wrote_length number (omega (arith, number.ends)) in
      record {
        within = omega arith;
        room = omega (arith, w.room, number.ends, length_below 19 (get_or ns i 0) (omega arith));
        rest =
            writing_part w.rest (row_from ns i h)
            (wrote_then (omega arith) number (wrote_byte m n _ (omega (arith, number.ends))))
            (omega (arith, w.rest.long, number.ends));
      }

  -- no number is left
  pub done : {out : List ℕ} {next i : ℕ} → Before out next i → length ns ≤ i → Wrote old at (row_of ns) out next
  unfolding row_of
  done {out} {next} {i} w h = writing_done w.rest (rw (drop_of_length-le ns h))
