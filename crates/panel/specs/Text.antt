-- What the panel program writes behind its line of columns: the issue's panel for the service man. Of the whole input, on a fresh board
-- and from line 1 on, it is the panel's text; the program writes it piece by piece, as the input comes.
-- Assumes nothing.
use Rattle.std.specs.Prelude.{ℕ, ◌+◌, List, [], ◌∷◌, ◌++◌, length}
use Rattle.port.specs.declared.Port.{Port}
use Rattle.buffers.specs.Rows.{row_of}
use Rattle.board.specs.declared.Board.{Board}
use Rattle.board.specs.Board.{ports, lines_of}
use Rattle.board.specs.Step.{bytes_of, step_of, Stepped}
use Rattle.records.specs.Records.{records}
use Rattle.text.specs.Listing.{after, listing_of, tail_of}
use Rattle.text.specs.Panel.{row_of_place}

-- the line of the port at a place; "levels and driven as the driven-lines question gives them"
abbrev pub place_line : Board → ℕ → Port → List ℕ
place_line b place p = row_of (row_of_place place p (lines_of b place).levels (lines_of b place).driven)

-- the lines of ports at places from `place` on
unfoldable pub places_of : Board → ℕ → List Port → List ℕ
places_of b place [] = []
places_of b place (p ∷ ps) = place_line b place p ++ places_of b (place + 1) ps

-- "for every record the listing's line, then a line for each place on the board"
unfoldable pub page_of : ℕ → Stepped → List ℕ
page_of number s = listing_of number (bytes_of s.answer) ++ places_of s.board 0 (ports s.board)

unfoldable pub pages_of : Board → ℕ → List (List ℕ) → List ℕ
pages_of b number [] = []
pages_of b number (e ∷ es) = page_of number (step_of b e) ++ pages_of (step_of b e).board (after number) es

-- the pages of the records of the input, from line `number` on, and behind them "a tail as in the listing"
unfoldable pub text_of : Board → ℕ → List ℕ → List ℕ
text_of b number input = pages_of b number (records input) ++ tail_of (length input)
