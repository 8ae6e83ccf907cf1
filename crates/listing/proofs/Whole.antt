-- A listing made piece by piece, as the program makes it, is the listing of the whole input. Assumes nothing.
use Rattle.std.proofs.Common.{◌≡◌, ℕ, ◌+◌, ◌/◌, ◌%◌, ◌^◌, ◌<◌, List, ◌++◌, length, refl, append_assoc, append-nil}
use Rattle.board.specs.declared.Board.{Board}
use Rattle.board.specs.Step.{bytes_of, step_of}
use Rattle.records.specs.Records.{records, steps_of, answers_of}
use Rattle.text.specs.Listing.{listing_of, tail_of}
use Rattle.text.proofs.Pieces as text
use Rattle.listing.specs.Text.{text_of}

next : Board → List ℕ → Board
next b e = (step_of b e).board

line : ℕ → Board → List ℕ → List ℕ
line number b e = listing_of number (bytes_of (step_of b e).answer)

paged : text.Paged next line text_of (λ b es. steps_of b (records es))
unfolding next line text_of listing_of tail_of answers_of bytes_of steps_of records
paged =
    record {
      no_text = λ b number. refl;
      stays = λ b. refl;
      first = λ b number k p v z rest. rw (text.tail_same (length rest)) (simp (append_assoc, append-nil));
      goes = λ b k p v z rest. refl;
    }

pub pieces : (b : Board) (number : ℕ) (piece more : List ℕ) → number < 2 ^ 64 → length piece % 4 ≡ 0
    → text_of b number (piece ++ more) ≡ text_of b number piece ++ text_of (steps_of b (records piece)) ((number + length piece / 4) % 2 ^ 64) more
pieces = text.pieces next line paged
