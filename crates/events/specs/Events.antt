-- What an event of kinds 3 to 7 at one port changes in its chip, before the settling: document 01's "Control words" and "Data,
-- handshake, bits". The rules of one port are in port/specs and words/specs; here is which port they change, and what mode 2 of A adds.
-- Assumes nothing.
use Rattle.std.specs.Prelude.{ℕ, Bool, false, ◌&&◌, ◌||◌, Result, Ok, Err}
use Rattle.std.specs.Bool.{beq}
use Rattle.bits.specs.Bits.{◌is◌}
use Rattle.port.specs.Fields.{ready_at}
use Rattle.port.specs.Rules.{written, accessed, strobed, lines_now}
use Rattle.port.specs.declared.Port.{Port}
use Rattle.refusals.specs.declared.Refusal.{Refusal}
use Rattle.words.specs.Words.{heard_of, obeyed}
use Rattle.words.specs.declared.Word.{Word}
use Rattle.chip.specs.declared.Chip.{Chip}
use Rattle.chip.specs.Chip.{Side, A, B, is_b, port, on, two_way, off}
use Rattle.events.specs.declared.Event.{Event}
use Rattle.events.specs.declared.Event.TheVariants.{Control, Write, Read, Strobe, Outside}

-- ---- control words
abbrev pub heard : Side → ℕ → Chip → Result Word Refusal
heard s v c = heard_of (port s c).awaiting (is_b s) v

-- "A entering or leaving mode 2 also lowers B's Ready": the modes of A before and after
abbrev pub recoupled : ℕ → ℕ → Port → Port
recoupled before after b = ready_at (b.ready && beq (before is 2) (after is 2)) b

abbrev pub obey : Side → Word → Chip → Chip
obey A w c = record { a = obeyed false c.a w; b = recoupled c.a.mode (obeyed false c.a w).mode c.b }
obey B w c = record { a = c.a; b = obeyed (two_way c) c.b w }

-- the chip that obeys, or the refusal
abbrev pub word_taken : Side → Result Word Refusal → Chip → Result Chip Refusal
word_taken s (Ok w) c = Ok (obey s w c)
word_taken s (Err r) c = Err r

abbrev pub control_of : Side → ℕ → Chip → Result Chip Refusal
control_of s v c = word_taken s (heard s v c) c

-- a refused byte changes nothing
abbrev pub obey_heard : Side → Result Word Refusal → Chip → Chip
obey_heard s (Ok w) c = obey s w c
obey_heard s (Err r) c = c

-- ---- a data read: "in mode 2 B's Ready rises"
abbrev pub read_from : Side → Chip → Chip
read_from A c = record { a = accessed false c.a; b = ready_at (c.b.ready || two_way c) c.b }
read_from B c = record { a = c.a; b = accessed (off B c) c.b }

-- ---- a strobe
-- the rise of this strobe ends a handshake: "modes 0 and 1", and with A in mode 2 "A's strobe ends output" and B's ends input,
-- whatever B's mode. "In mode 3 only the level is kept"
abbrev pub acts : Side → Chip → Bool
acts s c = two_way c || ((port s c).mode is 0) || ((port s c).mode is 1)

-- ---- what an event at one port changes, before the settling
abbrev pub changed : Side → Event → Chip → Chip
changed s (Control v) c = obey_heard s (heard s v c) c
changed s (Write v) c = on s (written (off s c) v) c
changed s Read c = read_from s c
changed s (Strobe level) c = on s (strobed (acts s c) level) c
changed s (Outside v) c = on s (lines_now v) c
