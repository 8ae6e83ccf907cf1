-- The numbers of the refusals: document 01, "Records" and "Runs", and document 02, Ask 1.
-- Assumes nothing.
use Rattle.std.specs.Prelude.{ℕ, Result, Ok, Err}
use Rattle.refusals.specs.declared.Refusal.{Refusal}
use Rattle.refusals.specs.declared.Refusal.TheVariants.{Kind, Place, Value, NoForm, NotOnB, Length, Size, Room, Unsound, Records, Text, Stamps}

-- 16 kind above 7; 17 place not on the board; 18 value not allowed; 19 control word of no defined form; 20 mode 2 word to a B port;
-- 32 not whole records; 33 size; 34 room; 35 board not sound; 36 too many records; 40 text longer than the buffer; 41 stamps
abbrev pub number_of : Refusal → ℕ
number_of Kind = 16
number_of Place = 17
number_of Value = 18
number_of NoForm = 19
number_of NotOnB = 20
number_of Length = 32
number_of Size = 33
number_of Room = 34
number_of Unsound = 35
number_of Records = 36
number_of Text = 40
number_of Stamps = 41

-- 0 for what is not refused
abbrev pub code_of : {A : Type 0} → Result A Refusal → ℕ
code_of (Ok x) = 0
code_of (Err r) = number_of r
