-- What the lent functions do that the functions on values do not: they write into a lent buffer, and where it is too short they
-- refuse with 34, before all else, with nothing moved and nothing written.
-- Assumes nothing.
use Rattle.std.specs.Prelude.{List, [], ◌∷◌, ℕ, leb, length, if◌then◌else◌}
use Rattle.buffers.specs.Splice.{splice, if_room}
use Rattle.board.specs.declared.Board.{Board}
use Rattle.board.specs.Board.{Told, lines_of}
use Rattle.board.specs.Step.{answer, Stepped, step_of}

-- the step, with a buffer of `room` bytes for its answer's four
unfoldable pub lent_of : Board → List ℕ → ℕ → Stepped
lent_of b e room =
    if leb 4 room then step_of b e
    else record { board = b; answer = answer 34 0 0 0 }

-- the driven lines, with a buffer of `room` bytes for the two: the levels, and a 1 for each driven line
unfoldable pub lent_lines : Board → ℕ → ℕ → Told
lent_lines b place room =
    if leb 2 room then lines_of b place
    else record { code = 34; levels = 0; driven = 0 }

abbrev pub lines_bytes : Told → List ℕ
lines_bytes l = l.levels ∷ l.driven ∷ []

-- a buffer once `block` is written at its start: its other bytes stay, and where it is too short they all do
unfoldable pub written : List ℕ → List ℕ → List ℕ
written old block = splice old 0 (if_room old 0 (length block) block)
