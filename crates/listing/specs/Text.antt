-- What the listing program writes: document 01, "Sessions to try". Of the whole input, on a fresh board of four and from line 1 on, it
-- is the listing; the program writes it piece by piece, as the input comes.
-- Assumes nothing.
use Rattle.std.specs.Prelude.{ℕ, List, ◌++◌, length}
use Rattle.board.specs.declared.Board.{Board}
use Rattle.records.specs.Records.{records, answers_of}
use Rattle.text.specs.Listing.{listing_of, tail_of}

-- the answers to the records of the input, a line each from line `number` on, and behind them the tail
unfoldable pub text_of : Board → ℕ → List ℕ → List ℕ
text_of b number input = listing_of number (answers_of b (records input)) ++ tail_of (length input)
