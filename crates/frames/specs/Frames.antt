-- Document 02, Ask 1: the text of a recording, Value Change Dump (IEEE 1364). "Lines, each ended by a newline".
-- Assumes nothing.
use Rattle.std.specs.Prelude.{ℕ, suc, List, [], ◌∷◌, ◌++◌, length, if◌then◌else◌}
use Prim.Native.String.{String}
use Rattle.bits.specs.Bits.{◌is◌}
use Rattle.buffers.specs.Text.{ascii}
use Rattle.buffers.specs.Digits.{digits_of}

-- ---- "`$timescale 1 us $end`; nine declarations, the first `$var wire 1 ! int $end`, the others alike with one space between words,
-- identifier characters 34 to 41 and names rdy0 to rdy7; `$enddefinitions $end`; then values"
abbrev pub names : List String
names = "int" ∷ "rdy0" ∷ "rdy1" ∷ "rdy2" ∷ "rdy3" ∷ "rdy4" ∷ "rdy5" ∷ "rdy6" ∷ "rdy7" ∷ []

-- the identifier character of the first line, `!`
abbrev pub identifier : ℕ
identifier = 33

abbrev pub declared : ℕ → List String → List ℕ
declared character [] = []
declared character (name ∷ more) = ascii "$var wire 1 " ++ (character ∷ []) ++ ascii " " ++ ascii name ++ ascii " $end\n" ++ declared (suc character) more

unfoldable pub header : List ℕ
header = ascii "$timescale 1 us $end\n" ++ declared identifier names ++ ascii "$enddefinitions $end\n"

-- ---- "A time line is `#` and the time; a value line is 0 or 1 and then the identifier character"
unfoldable pub time_line : ℕ → List ℕ
time_line time = ascii "#" ++ digits_of time ++ ascii "\n"

-- 48 and 49 are the codes of 0 and 1, and 10 is the newline
unfoldable pub value_line : ℕ → ℕ → List ℕ
value_line character value = (if value is 0 then 48 else 49) ∷ character ∷ 10 ∷ []

-- the lines of all values, the first with this identifier character
unfoldable pub all_lines : ℕ → List ℕ → List ℕ
all_lines character [] = []
all_lines character (v ∷ vs) = value_line character v ++ all_lines (suc character) vs

-- the lines of those that are not as they were shown
unfoldable pub changed_lines : ℕ → List ℕ → List ℕ → List ℕ
changed_lines character (s ∷ ss) (v ∷ vs) = (if v is s then [] else value_line character v) ++ changed_lines (suc character) ss vs
changed_lines character [] vs = []
changed_lines character (s ∷ ss) [] = []

-- "Time 0 shows all nine values in order"
unfoldable pub first_frame : ℕ → List ℕ → List ℕ
first_frame time values = time_line time ++ all_lines identifier values

-- "later times only changes in that order, and a time without a change no line"
unfoldable pub later_frame : ℕ → List ℕ → List ℕ → List ℕ
later_frame time shown values =
    if length (changed_lines identifier shown values) is 0 then [] else time_line time ++ changed_lines identifier shown values
