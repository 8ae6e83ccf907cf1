-- A sound chip stays sound at an event of one place.
-- Assumes nothing.
use Rattle.std.specs.Prelude.{Result, Ok, Err}
use mathlib.Core.Path.{◌≡◌, refl}
use mathlib.Core.Bool.{Bool, true, false}
use Prim.Native.Nat.{ℕ}
use lib.Dec.{ltb}
use Rattle.bits.specs.Bits.{◌is◌}
use Rattle.words.specs.declared.Word.{Word}
use Rattle.refusals.specs.declared.Refusal.{Refusal}
use Rattle.chip.specs.declared.Chip.{Chip}
use Rattle.chip.specs.Chip.{Side, A, B, is_b, port, off, settle}
use Rattle.chip.specs.Sound.{sound_chip}
use Rattle.events.specs.declared.Event.{Event}
use Rattle.events.specs.declared.Event.TheVariants.{Control, Write, Read, Strobe, Outside}
use Rattle.events.specs.Events.{heard, obey, obey_heard, changed}
use Rattle.events.specs.Act.{event_of, step_word, step}
use Rattle.bits.proofs.Logic.{by_cases}
use Rattle.words.proofs.Shape.{fits, word_fits, obeyed_facts}
use Rattle.chip.proofs.Keep.{Shaped, apart, settle_sound, settle_same}

-- the event's value is a byte
abbrev pub byte_in : Event → Bool
byte_in (Control v) = ltb v 256
byte_in (Write v) = ltb v 256
byte_in Read = true
byte_in (Strobe level) = true
byte_in (Outside v) = ltb v 256

obey_shaped : (s : Side) (w : Word) (c : Chip) → fits (is_b s) (Ok w) ≡ true → Shaped c → Shaped (obey s w c)
obey_shaped A w c f h = (obeyed_facts false false c.a w f h.0, h.1)
obey_shaped B w c f h = (h.0, obeyed_facts true (off B c) c.b w f h.1)

word_sound : (s : Side) (h : Result Word Refusal) (c : Chip) → fits (is_b s) h ≡ true → sound_chip c ≡ true → sound_chip (step_word s h c) ≡ true
word_sound s (Ok w) c f h = settle_sound (obey s w c) (obey_shaped s w c f (apart c h).0)
word_sound s (Err r) c f h = h

pub step_sound : (s : Side) (e : Event) (c : Chip) → byte_in e ≡ true → sound_chip c ≡ true → sound_chip (step s e c) ≡ true
unfolding step
step_sound s (Control v) c byte h = word_sound s (heard s v c) c (word_fits (port s c).awaiting (is_b s) v byte) h
step_sound A (Write v) c byte h = settle_sound (changed A (Write v) c) (apart c h).0
step_sound B (Write v) c byte h = settle_sound (changed B (Write v) c) (apart c h).0
step_sound A Read c byte h = settle_sound (changed A Read c) (apart c h).0
step_sound B Read c byte h = settle_sound (changed B Read c) (apart c h).0
step_sound A (Strobe level) c byte h = settle_sound (changed A (Strobe level) c) (apart c h).0
step_sound B (Strobe level) c byte h = settle_sound (changed B (Strobe level) c) (apart c h).0
step_sound A (Outside v) c byte h = settle_sound (changed A (Outside v) c) (apart c h).0
step_sound B (Outside v) c byte h = settle_sound (changed B (Outside v) c) (apart c h).0

-- ---- what an event changes and the settling after it are the step, of a refused word too
word_is : (s : Side) (h : Result Word Refusal) (c : Chip) → sound_chip c ≡ true → settle (obey_heard s h c) ≡ step_word s h c
word_is s (Ok w) c e = refl
word_is s (Err r) c e = settle_same c e

pub step_is : (s : Side) (e : Event) (c : Chip) → sound_chip c ≡ true → settle (changed s e c) ≡ step s e c
unfolding step
step_is s (Control v) c h = word_is s (heard s v c) c h
step_is s (Write v) c h = refl
step_is s Read c h = refl
step_is s (Strobe level) c h = refl
step_is s (Outside v) c h = refl

-- the event of four bytes has a byte for its value
pub event_byte : (kind v : ℕ) → ltb v 256 ≡ true → byte_in (event_of kind v) ≡ true
unfolding event_of
event_byte kind v h =
    by_cases (kind is 3) (λ e. rw e h) (λ e. rw e
    (by_cases (kind is 4) (λ e. rw e h) (λ e. rw e
    (by_cases (kind is 5) (λ e. rw e) (λ e. rw e
    (by_cases (kind is 6) (λ e. rw e) (λ e. rw e h)))))))
