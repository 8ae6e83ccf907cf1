-- A row of numbers as text. To be believed: the numbers are in decimal, one space stands between two of them and a newline behind the last.
-- A row of no numbers is no text.
use Rattle.std.specs.Prelude.{List, [], ◌∷◌, ◌++◌, ℕ}
use Rattle.buffers.specs.Digits.{digits_of}
use Rattle.buffers.specs.Text.{ascii}

unfoldable pub row_of : List ℕ → List ℕ
row_of [] = []
row_of (n ∷ []) = digits_of n ++ ascii "\n"
row_of (n ∷ m ∷ ns) = digits_of n ++ ascii " " ++ row_of (m ∷ ns)
