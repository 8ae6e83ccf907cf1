-- What the wave program makes of its two files and the size that it is asked for, and the line with which it refuses: docs/FORMATS.md,
-- "The wave".
-- Assumes nothing.
use Rattle.std.specs.Prelude.{◌≡◌, List, [], ◌∷◌, ◌++◌, ℕ, ◌+◌, ◌%◌, ◌<◌, ltb, length, take, Result, Ok, Err, if◌then◌else◌}
use Rattle.bits.specs.Bits.{◌is◌}
use Rattle.buffers.specs.Text.{ascii}
use Rattle.buffers.specs.Digits.{digits_of}
use Rattle.refusals.specs.declared.Refusal.{Refusal}
use Rattle.refusals.specs.Numbers.{number_of}
use Rattle.board.specs.Board.{fresh_of}
use Rattle.recording.specs.Wave.{Exported, exported_of, page_of}

-- ---- a file: the length that a file of n bytes is taken for. From `limit` on it is too long for any recording, and of its length only
-- what is over after the last whole record matters
unfoldable pub kept_of : ℕ → ℕ → ℕ
kept_of limit n = if ltb n limit then n else limit + n % 4

-- where the bytes behind the first `count` go
unfoldable pub next_from : ℕ → ℕ → ℕ
next_from limit count = if ltb count limit then count else 0

-- what is counted after reads of these lengths, one after the other, by a program that had counted `count`; and how long the file is
abbrev pub count_of : ℕ → ℕ → List ℕ → ℕ
count_of limit count [] = count
count_of limit count (more ∷ reads) = count_of limit (kept_of limit (count + more)) reads

abbrev pub total : List ℕ → ℕ
total [] = 0
total (more ∷ reads) = more + total reads

-- the bytes before index `at` are the same
abbrev pub SameBefore : ℕ → List ℕ → List ℕ → Type 0
SameBefore at old new = take at new ≡ take at old

-- ---- the text: that of the export on a fresh board of `size` chips. `room`, `old`: the buffer's length, and its bytes before
pub record Wave : Type 0 where
  pub code : ℕ
  pub length : ℕ

abbrev pub code_and_length : Exported → Wave
code_and_length e = record { code = e.code; length = e.length }

unfoldable pub wave_of : ℕ → List ℕ → List ℕ → ℕ → Wave
wave_of size events stamps room =
    if (fresh_of size).code is 0 then code_and_length (exported_of (fresh_of size).board events stamps room) else
    record { code = (fresh_of size).code; length = 0 }

-- the same of a text's length or a refusal
abbrev pub waved_by : Result ℕ Refusal → Wave
waved_by (Ok n) = record { code = 0; length = n }
waved_by (Err r) = record { code = number_of r; length = 0 }

unfoldable pub buffer_of : ℕ → List ℕ → List ℕ → List ℕ → List ℕ
buffer_of size events stamps old = if (fresh_of size).code is 0 then page_of (fresh_of size).board events stamps old else old

-- ---- a file is refused by its own length, however long it is
-- the first lengths, in whole records, that no recording has
abbrev pub events_limit : ℕ
events_limit = 65540

abbrev pub stamps_limit : ℕ
stamps_limit = 32772

-- `bytes` are what is left of a file: all of it, or, of one that is too long, as many as its length is taken for
pub record Left (limit : ℕ) (file bytes : List ℕ) : Type 0 where
  pub counted : length bytes ≡ kept_of limit (length file)
  pub whole : length file < limit → bytes ≡ file

-- a file read in parts is taken for the same length as one that is read at once
abbrev pub ReadInParts : Type 0
ReadInParts = (limit : ℕ) (reads : List ℕ) → limit % 4 ≡ 0 → count_of limit 0 reads ≡ kept_of limit (total reads)

-- and what is left of the two files gives the code and the length that the files themselves would
abbrev pub ByOwnLength : Type 0
ByOwnLength = (size : ℕ) (events stamps events' stamps' : List ℕ) (room : ℕ) → Left events_limit events events' → Left stamps_limit stamps stamps'
    → wave_of size events' stamps' room ≡ wave_of size events stamps room

-- ---- "a refusal as `refused N` and a few words"
unfoldable pub words_of : ℕ → List ℕ
words_of code =
    if code is 33 then ascii " a board has one to four chips" else
    if code is 35 then ascii " the board is not sound" else
    if code is 32 then ascii " the events are not whole records of four bytes" else
    if code is 36 then ascii " more than 16384 records" else
    if code is 41 then ascii " the stamps are not two bytes for each record" else
    if code is 40 then ascii " the text is longer than its buffer" else
    []

unfoldable pub refusal_line : ℕ → List ℕ
refusal_line code = ascii "refused " ++ digits_of code ++ words_of code ++ ascii "\n"
