-- What document 02's asks promise of the whole board, in its order. Each statement is part of what `kept_promises` ensures.
-- Assumes nothing.
use Rattle.std.specs.Prelude.{◌≡◌, true, List, ℕ, ◌+◌, ◌-◌, length, if◌then◌else◌}
use Rattle.bits.specs.Bits.{◌is◌}
use Rattle.board.specs.declared.Board.{Board}
use Rattle.board.specs.Board.{ports, port_at, sound_board}
use Rattle.board.specs.Step.{answer, step_of}
use Rattle.demands.specs.Words.{acknowledge, under_service, nearest, turn, bytes}

-- ---- ASK 2. "Make the request answer name the nearest asking place: the fourth answer byte is 0 for none and otherwise place + 1."
-- In demand 3's words it is the nearest live waiting port if that stands nearer than all under service; and it is the one that an
-- acknowledge would go to: with 0 nobody answers, otherwise the place named does, with its vector.
pub record Names (request : ℕ) (b : Board) : Type 0 where
  pub whom : request ≡ (if turn (length (ports b)) b (under_service b) then nearest b + 1 else 0)
  pub answers : (step_of b acknowledge).answer ≡ (if request is 0 then answer 3 0 255 0 else answer 2 (request - 1) (port_at b (request - 1)).vector 0)

-- The answer to any event of four bytes on a sound board, a refused one too, speaks of the board after it.
abbrev pub WhoIsAsking : Type 0
WhoIsAsking = (b : Board) (e : List ℕ) → sound_board b ≡ true → length e ≡ 4 → bytes e ≡ true → Names (step_of b e).answer.request (step_of b e).board
