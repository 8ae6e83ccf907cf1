-- How a wave viewer reads a Value Change Dump (IEEE 1364): lines, the frames that they make, and the value that a line has at a time.
-- Nothing here knows how the text is made. Assumes nothing.
use Rattle.std.specs.Prelude.{List, [], ◌∷◌, ◌++◌, ℕ, zero, suc, ◌+◌, ◌-◌, ◌*◌, leb, get_or, if◌then◌else◌}
use Rattle.bits.specs.Bits.{◌is◌}
use Rattle.frames.specs.Frames.{time_line, value_line}

-- ---- "Lines, each ended by a newline". Bytes after the last newline are no line.
abbrev pub newline : ℕ
newline = 10

abbrev pub before : ℕ → List (List ℕ) → List (List ℕ)
before byte [] = []
before byte (line ∷ lines) = (byte ∷ line) ∷ lines

abbrev pub lines_in : List ℕ → List (List ℕ)
lines_in [] = []
lines_in (byte ∷ rest) = if byte is newline then [] ∷ lines_in rest else before byte (lines_in rest)

-- ---- "A time line is `#` and the time; a value line is 0 or 1 and then the identifier character"
-- a change: the identifier character of a line, and its value from here on
pub record Change : Type 0 where
  pub character : ℕ
  pub value : ℕ

-- a frame: a time, and the changes at it
pub record Frame : Type 0 where
  pub time : ℕ
  pub changes : List Change

-- what is read from a line of the text on: the changes before the next time line, and the frames from there on
pub record Seen : Type 0 where
  pub early : List Change
  pub frames : List Frame

abbrev pub time_mark : ℕ
time_mark = 35

abbrev pub declaration_mark : ℕ
declaration_mark = 36

abbrev pub digit_zero : ℕ
digit_zero = 48

-- the number with these digits, behind a number `n`
abbrev pub number_from : ℕ → List ℕ → ℕ
number_from n [] = n
number_from n (digit ∷ digits) = number_from (10 * n + (digit - digit_zero)) digits

-- a time line (`#`) takes the changes that follow it; a declaration (`$`) says nothing of values; any other line is a value line
abbrev pub read_line : List ℕ → Seen → Seen
read_line [] seen = seen
read_line (first ∷ rest) seen =
    if first is time_mark then record { early = []; frames = record { time = number_from 0 rest; changes = seen.early } ∷ seen.frames } else
    if first is declaration_mark then seen else
    record { early = record { character = get_or rest 0 0; value = first - digit_zero } ∷ seen.early; frames = seen.frames }

abbrev pub read_lines : List (List ℕ) → Seen
read_lines [] = record { early = []; frames = [] }
read_lines (line ∷ lines) = read_line line (read_lines lines)

unfoldable pub frames_in : List ℕ → List Frame
frames_in text = (read_lines (lines_in text)).frames

-- ---- the way back: frames written one after the other, with the lines of the format
abbrev pub written_changes : List Change → List ℕ
written_changes [] = []
written_changes (c ∷ cs) = value_line c.character c.value ++ written_changes cs

abbrev pub written : List Frame → List ℕ
written [] = []
written (f ∷ fs) = time_line f.time ++ written_changes f.changes ++ written fs

-- ---- a value holds until the next change
-- the value of a line that nothing has been shown of
abbrev pub unknown : ℕ
unknown = 2

-- the value after these changes, of a line that was at `value`
abbrev pub changed_by : List Change → ℕ → ℕ → ℕ
changed_by [] character value = value
changed_by (c ∷ cs) character value = changed_by cs character (if c.character is character then c.value else value)

-- the same after all frames up to `time`
abbrev pub shown_from : ℕ → List Frame → ℕ → ℕ → ℕ
shown_from value [] time character = value
shown_from value (f ∷ fs) time character = shown_from (if leb f.time time then changed_by f.changes character value else value) fs time character

-- the value shown at `time` for the line with this identifier character
abbrev pub shown_at : List Frame → ℕ → ℕ → ℕ
shown_at frames time character = shown_from unknown frames time character

-- and just before; before time 0 nothing has been shown
abbrev pub shown_before : List Frame → ℕ → ℕ → ℕ
shown_before frames zero character = unknown
shown_before frames (suc time) character = shown_at frames time character
