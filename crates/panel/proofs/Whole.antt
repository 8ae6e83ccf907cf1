-- The panel's text made piece by piece, as the program makes it, is that of the whole input. Assumes nothing.
use Rattle.std.proofs.Common.{◌≡◌, ℕ, ◌+◌, ◌/◌, ◌%◌, ◌^◌, ◌<◌, List, ◌++◌, length, refl, append_assoc}
use Rattle.board.specs.declared.Board.{Board}
use Rattle.board.specs.Step.{step_of}
use Rattle.records.specs.Records.{records, steps_of}
use Rattle.text.specs.Listing.{tail_of}
use Rattle.text.proofs.Pieces as text
use Rattle.panel.specs.Text.{page_of, pages_of, text_of}

next : Board → List ℕ → Board
next b e = (step_of b e).board

page : ℕ → Board → List ℕ → List ℕ
page number b e = page_of number (step_of b e)

paged : text.Paged next page text_of (λ b es. steps_of b (records es))
unfolding next page text_of pages_of tail_of steps_of records
paged =
    record {
      no_text = λ b number. refl;
      stays = λ b. refl;
      first = λ b number k p v z rest. rw (text.tail_same (length rest)) (simp append_assoc);
      goes = λ b k p v z rest. refl;
    }

pub pieces : (b : Board) (number : ℕ) (piece more : List ℕ) → number < 2 ^ 64 → length piece % 4 ≡ 0
    → text_of b number (piece ++ more) ≡ text_of b number piece ++ text_of (steps_of b (records piece)) ((number + length piece / 4) % 2 ^ 64) more
pieces = text.pieces next page paged
