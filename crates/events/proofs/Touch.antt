-- What events of one place leave alone: service; and words the input register too.
-- Assumes nothing.
use Rattle.std.specs.Prelude.{Result, Ok, Err}
use mathlib.Core.Path.{◌≡◌, refl}
use mathlib.Core.Bool.{Bool, true, false}
use Rattle.port.specs.declared.Port.{Port}
use Rattle.words.specs.Words.{obeyed}
use Rattle.words.specs.declared.Word.{Word}
use Rattle.words.specs.declared.Word.TheVariants.{Vector, Mode, Interrupt, Enable, Select, Mask}
use Rattle.refusals.specs.declared.Refusal.{Refusal}
use Rattle.chip.specs.declared.Chip.{Chip}
use Rattle.chip.specs.Chip.{Side, A, B, two_way}
use Rattle.chip.proofs.Touch.{under}
use Rattle.events.specs.declared.Event.{Event}
use Rattle.events.specs.declared.Event.TheVariants.{Control, Write, Read, Strobe, Outside}
use Rattle.events.specs.Events.{heard, obey_heard, changed}

-- a word touches neither service nor the input register
pub obeyed_leaves : (linked : Bool) (p : Port) (w : Word) → ((obeyed linked p w).service ≡ p.service) × ((obeyed linked p w).input ≡ p.input)
obeyed_leaves linked p (Vector v) = (refl, refl)
obeyed_leaves linked p (Mode m) = (refl, refl)
obeyed_leaves linked p (Interrupt on all high true) = (refl, refl)
obeyed_leaves linked p (Interrupt on all high false) = (refl, refl)
obeyed_leaves linked p (Enable on) = (refl, refl)
obeyed_leaves linked p (Select v) = (refl, refl)
obeyed_leaves linked p (Mask v) = (refl, refl)

-- ---- no event of kinds 3 to 7 touches service, at either port
word_changed : (s : Side) (h : Result Word Refusal) (c : Chip) → under (obey_heard s h c) ≡ under c
word_changed A (Ok w) c = rw (obeyed_leaves false c.a w).0
word_changed B (Ok w) c = rw (obeyed_leaves (two_way c) c.b w).0
word_changed s (Err r) c = refl

pub changed_under : (s : Side) (e : Event) (c : Chip) → under (changed s e c) ≡ under c
changed_under s (Control v) c = word_changed s (heard s v c) c
changed_under A (Write v) c = refl
changed_under B (Write v) c = refl
changed_under A Read c = refl
changed_under B Read c = refl
changed_under A (Strobe level) c = refl
changed_under B (Strobe level) c = refl
changed_under A (Outside v) c = refl
changed_under B (Outside v) c = refl
