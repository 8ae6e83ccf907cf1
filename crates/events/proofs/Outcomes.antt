-- What the code gives of an event, and the code and value that the table has for it.
-- Assumes nothing.
use Rattle.std.specs.Prelude.{Result, Ok, Err}
use mathlib.Core.Path.{◌≡◌, refl}
use Prim.Native.Nat.{ℕ}
use Rattle.refusals.specs.declared.Refusal.{Refusal}
use Rattle.refusals.specs.Numbers.{code_of}
use Rattle.words.specs.declared.Word.{Word}
use Rattle.chip.specs.declared.Chip.{Chip}
use Rattle.chip.specs.Chip.{Side}
use Rattle.events.specs.declared.Event.{Event}
use Rattle.events.specs.declared.Event.TheVariants.{Control, Write, Read, Strobe, Outside}
use Rattle.events.specs.Events.{heard, word_taken}
use Rattle.events.specs.Act.{Acting, step_word, step, act_of, word_outcome, outcome_of, acting_from}

abbrev acting : Chip → ℕ → ℕ → Acting
acting c code value = record { chip = c; code = code; value = value }

word_acting : (s : Side) (h : Result Word Refusal) (v : ℕ) (c : Chip) → acting_from c v (word_outcome (word_taken s h c)) ≡ acting (step_word s h c) (code_of h) v
word_acting s (Ok w) v c = refl
word_acting s (Err r) v c = refl

pub acting_is : (s : Side) (e : Event) (v : ℕ) (c : Chip) → acting_from c v (outcome_of s e c) ≡ act_of s e v c
unfolding act_of step outcome_of
acting_is s (Control w) v c = word_acting s (heard s w c) v c
acting_is s (Write w) v c = refl
acting_is s Read v c = refl
acting_is s (Strobe level) v c = refl
acting_is s (Outside w) v c = refl
