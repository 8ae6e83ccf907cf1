-- One event of kinds 3 to 7 at one chip, with the settling after it and the answer's code and value: what the step does to the
-- one chip that such an event concerns.
-- Assumes nothing.
use Rattle.std.specs.Prelude.{ℕ, Option, Some, None, Result, Ok, Err, if◌then◌else◌}
use Rattle.bits.specs.Bits.{◌is◌}
use Rattle.port.specs.Rules.{shown_of}
use Rattle.refusals.specs.declared.Refusal.{Refusal}
use Rattle.refusals.specs.Numbers.{number_of, code_of}
use Rattle.words.specs.declared.Word.{Word}
use Rattle.chip.specs.declared.Chip.{Chip}
use Rattle.chip.specs.Chip.{Side, port, settle}
use Rattle.events.specs.declared.Acted.{Acted}
use Rattle.events.specs.declared.Event.{Event}
use Rattle.events.specs.declared.Event.TheVariants.{Control, Write, Read, Strobe, Outside}
use Rattle.events.specs.Events.{heard, obey, control_of, changed}

-- document 01, "Records": 3 control write, 4 data write, 5 data read, 6 strobe level, 7 outside levels of the eight lines
unfoldable pub event_of : ℕ → ℕ → Event
event_of kind v =
    if kind is 3 then Control v else
    if kind is 4 then Write v else
    if kind is 5 then Read else
    if kind is 6 then Strobe (v is 1) else
    Outside v

-- a refused word changes nothing, so nothing is settled either
abbrev pub step_word : Side → Result Word Refusal → Chip → Chip
step_word s (Ok w) c = settle (obey s w c)
step_word s (Err r) c = c

unfoldable pub step : Side → Event → Chip → Chip
step s (Control v) c = step_word s (heard s v c) c
step s (Write v) c = settle (changed s (Write v) c)
step s Read c = settle (changed s Read c)
step s (Strobe level) c = settle (changed s (Strobe level) c)
step s (Outside v) c = settle (changed s (Outside v) c)

-- the table's code: 0 done, 1 data read, 19 or 20 for a refused word
abbrev pub code_at : Side → Event → Chip → ℕ
code_at s (Control v) c = code_of (heard s v c)
code_at s (Write v) c = 0
code_at s Read c = 1
code_at s (Strobe level) c = 0
code_at s (Outside v) c = 0

-- the answer's value: the byte read, else as in the event
abbrev pub value_at : Side → Event → ℕ → Chip → ℕ
value_at s (Control w) v c = v
value_at s (Write w) v c = v
value_at s Read v c = shown_of (port s c)
value_at s (Strobe level) v c = v
value_at s (Outside w) v c = v

pub record Acting : Type 0 where
  pub chip : Chip
  pub code : ℕ
  pub value : ℕ

unfoldable pub act_of : Side → Event → ℕ → Chip → Acting
act_of s e v c = record { chip = step s e c; code = code_at s e c; value = value_at s e v c }

-- ---- the same as the code gives it: the chip after the event and the byte that a read shows, or why the word is refused
abbrev pub done : Chip → Option ℕ → Result Acted Refusal
done c shown = Ok (record { chip = c; shown = shown })

-- a chip after an event that shows no byte
abbrev pub quiet : Result Chip Refusal → Result Acted Refusal
quiet (Ok c) = done c None
quiet (Err r) = Err r

abbrev pub word_outcome : Result Chip Refusal → Result Acted Refusal
word_outcome (Ok c) = done (settle c) None
word_outcome (Err r) = Err r

unfoldable pub outcome_of : Side → Event → Chip → Result Acted Refusal
outcome_of s (Control v) c = word_outcome (control_of s v c)
outcome_of s (Write v) c = done (settle (changed s (Write v) c)) None
outcome_of s Read c = done (settle (changed s Read c)) (Some (shown_of (port s c)))
outcome_of s (Strobe level) c = done (settle (changed s (Strobe level) c)) None
outcome_of s (Outside v) c = done (settle (changed s (Outside v) c)) None

-- what it comes to for the answer: `acting_is` in proofs/Outcomes says that it is `act_of`
abbrev pub acting_done : ℕ → Chip → Option ℕ → Acting
acting_done v c None = record { chip = c; code = 0; value = v }
acting_done v c (Some byte) = record { chip = c; code = 1; value = byte }

abbrev pub acting_from : Chip → ℕ → Result Acted Refusal → Acting
acting_from c v (Ok a) = acting_done v a.chip a.shown
acting_from c v (Err r) = record { chip = c; code = number_of r; value = v }
