-- The definitions of the text at work. Assumes nothing.
use mathlib.Core.Path.{◌≡◌, refl}
use mathlib.Core.List.{[], ◌∷◌}
use Prim.Native.Nat.{ℕ}
use lib.ListN.{length}
use Rattle.buffers.specs.Text.{ascii}
use Rattle.buffers.specs.Digits.{digits_up, digits_of}
use Rattle.buffers.specs.Rows.{row_of}

-- document 01's listing, lines 1 and 11
line_1 : row_of (1 ∷ 0 ∷ 0 ∷ 32 ∷ 0 ∷ []) ≡ ascii "1 0 0 32 0\n"
unfolding row_of digits_of digits_up
line_1 = refl

line_11 : row_of (11 ∷ 3 ∷ 0 ∷ 255 ∷ 0 ∷ []) ≡ ascii "11 3 0 255 0\n"
unfolding row_of digits_of digits_up
line_11 = refl

-- the longest number, and a row of two of them: it fills the room that `put_row` asks for
abbrev longest : ℕ
longest = 18446744073709551615

longest_digits : digits_of longest ≡ ascii "18446744073709551615"
unfolding digits_of digits_up
longest_digits = refl

longest_row : length (row_of (longest ∷ longest ∷ [])) ≡ 42
unfolding row_of digits_of digits_up
longest_row = refl
