-- "Places beyond the size are neither read nor changed": document 01, "Sound board".
-- Assumes nothing.
use Rattle.std.specs.Prelude.{◌≡◌, List, ℕ, drop}
use Rattle.chip.specs.declared.Chip.{Chip}
use Rattle.board.specs.declared.Board.{Board}
use Rattle.board.specs.Board.{there, sound_board, request_of, lines_of}
use Rattle.board.specs.Step.{step_of}
use Rattle.records.specs.Records.{steps_of, answers_of}

-- the chips beyond the size
abbrev pub beyond : Board → List Chip
beyond b = drop b.size b.chips

-- two boards that differ at most in these
pub record Alike (b c : Board) : Type 0 where
  pub sizes : b.size ≡ c.size
  pub chips : there b ≡ there c
  pub decoders : b.decoder ≡ c.decoder

-- "neither read": such boards are sound together, ask for the same interrupt and drive the same lines; they answer every event, and
-- every session, alike, and are alike after it
pub record SameAnswers (b c : Board) : Type 0 where
  pub sound : sound_board b ≡ sound_board c
  pub request : request_of b ≡ request_of c
  pub lines : (place : ℕ) → lines_of b place ≡ lines_of c place
  pub answer : (e : List ℕ) → (step_of b e).answer ≡ (step_of c e).answer
  pub after : (e : List ℕ) → Alike (step_of b e).board (step_of c e).board
  pub answers : (es : List (List ℕ)) → answers_of b es ≡ answers_of c es
  pub after_all : (es : List (List ℕ)) → Alike (steps_of b es) (steps_of c es)

abbrev pub NotRead : Type 0
NotRead = (b c : Board) → Alike b c → SameAnswers b c

-- "nor changed": by no event, and by no session
abbrev pub NotChanged : Type 0
NotChanged = (b : Board) → ((e : List ℕ) → beyond (step_of b e).board ≡ beyond b) × ((es : List (List ℕ)) → beyond (steps_of b es) ≡ beyond b)
