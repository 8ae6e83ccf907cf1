-- The text of the listing: document 01, "Sessions to try", the listing program. To be believed: a line is the answer's number and its
-- four bytes in decimal with one space between, and the bytes over at the end of the input are counted on a line of their own.
use Rattle.std.specs.Prelude.{ℕ, ◌+◌, ◌%◌, ◌^◌, List, [], ◌∷◌, ◌++◌, if◌then◌else◌}
use Rattle.bits.specs.Bits.{◌is◌}
use Rattle.buffers.specs.Text.{ascii}
use Rattle.buffers.specs.Rows.{row_of}

-- the number of the line after line n: lines are counted in a u64, and after its largest number comes 0
abbrev pub after : ℕ → ℕ
after n = (n + 1) % 2 ^ 64

-- "a line each: number, code, place, value, request": the lines of answers of four bytes each, from line `number` on.
-- Fewer than four bytes are no answer
unfoldable pub listing_of : ℕ → List ℕ → List ℕ
listing_of number [] = []
listing_of number (a ∷ []) = []
listing_of number (a ∷ b ∷ []) = []
listing_of number (a ∷ b ∷ c ∷ []) = []
listing_of number (code ∷ place ∷ value ∷ request ∷ rest) = row_of (number ∷ code ∷ place ∷ value ∷ request ∷ []) ++ listing_of (after number) rest

-- "One to three bytes over end it with "tail" and their count": the end of the listing of an input of `bytes` bytes
unfoldable pub tail_of : ℕ → List ℕ
tail_of bytes = if bytes % 4 is 0 then [] else ascii "tail " ++ row_of (bytes % 4 ∷ [])
