-- How large a buffer has to be for the text of a recording.
-- Assumes nothing.
use Rattle.std.specs.Prelude.{◌≡◌, List, ℕ, ◌+◌, ◌*◌, ◌/◌, ◌≤◌, length}
use Rattle.board.specs.declared.Board.{Board}
use Rattle.recording.specs.Wave.{wave_text, exported_of}

-- "A recording has at most 16,384 records"
abbrev pub most_records : ℕ
most_records = 16384

-- room for the header, and for the lines of a record: `#`, ten digits and a newline, and nine value lines of three bytes
abbrev pub room_for : ℕ → ℕ
room_for records = 257 + 39 * records

-- the text of a recording, each record with its stamp of two bytes, has that room
abbrev pub Bounded : Type 0
Bounded = (b : Board) (events stamps : List ℕ) → length events / 4 ≤ most_records → length stamps ≡ 2 * (length events / 4)
    → length (wave_text b events stamps) ≤ room_for (length events / 4)

-- and so an export into a buffer of that room is never refused with 40, "when the text is longer than the buffer"
abbrev pub NeverForty : Type 0
NeverForty = (b : Board) (events stamps : List ℕ) (room : ℕ) → room_for (length events / 4) ≤ room → (exported_of b events stamps room).code ≡ 40 → ⊥
