-- Document 01, "Records": events and answers as records of four bytes, and the events of a run one after the other.
-- Assumes nothing.
use Rattle.std.specs.Prelude.{List, [], ◌∷◌, ◌++◌, ℕ}
use Rattle.board.specs.declared.Board.{Board}
use Rattle.board.specs.Step.{bytes_of, step_of}

-- "Records have one size, 4 bytes, and no header"
unfoldable pub records : List ℕ → List (List ℕ)
records [] = []
records (a ∷ []) = []
records (a ∷ b ∷ []) = []
records (a ∷ b ∷ c ∷ []) = []
records (a ∷ b ∷ c ∷ d ∷ rest) = (a ∷ b ∷ c ∷ d ∷ []) ∷ records rest

-- the board after the events, refused ones included, each its four bytes
unfoldable pub steps_of : Board → List (List ℕ) → Board
steps_of b [] = b
steps_of b (e ∷ es) = steps_of (step_of b e).board es

-- the answers' bytes, one record after the other
unfoldable pub answers_of : Board → List (List ℕ) → List ℕ
answers_of b [] = []
answers_of b (e ∷ es) = bytes_of (step_of b e).answer ++ answers_of (step_of b e).board es
