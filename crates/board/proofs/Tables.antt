-- The tables of refusals and of control words, line by line, as the proof of the halves wants them.
-- Assumes nothing.
use Rattle.std.specs.Prelude.{Ok, Err, if◌then◌else◌}
use mathlib.Core.Path.{◌≡◌, refl}
use mathlib.Core.Bool.{Bool, true, false, ◌&&◌, ◌||◌, not, false≢true}
use mathlib.Core.List.{List, [], ◌∷◌}
use Prim.Native.Nat.{ℕ, ◌*◌, ◌/◌, ◌%◌, ◌<◌}
use lib.Dec.{ltb}
use borrow.Author.Tests.{ltb-true}
use Rattle.bits.specs.Bits.{◌is◌, bit}
use Rattle.bits.proofs.Logic.{by_cases}
use Rattle.refusals.specs.declared.Refusal.{Refusal}
use Rattle.refusals.specs.declared.Refusal.TheVariants.{Kind, Place, Value, NoForm, NotOnB}
use Rattle.refusals.specs.Numbers.{number_of, code_of}
use Rattle.words.specs.Words.{heard_of}
use Rattle.words.specs.declared.Word.{Word}
use Rattle.words.specs.declared.Word.TheVariants.{Vector, Mode, Interrupt, Enable, Select, Mask}
use Rattle.events.specs.declared.Event.{Event}
use Rattle.events.specs.declared.Event.TheVariants.{Control, Write, Read, Strobe, Outside}
use Rattle.events.specs.Act.{event_of}
use Rattle.board.specs.declared.Board.{Board}
use Rattle.board.specs.Board.{sound_board}
use Rattle.board.specs.Step.{kind_of, place_of, value_of, last_of, Line, line, verdict, place_bad, value_bad, word_code, refusal, doing_of}
use Rattle.board.specs.Halves.{early_of, early_at, read_of}

-- ---- the refusals: three that need no look at a port, then the two of a control word
pub three_first : (p q r : Bool) (l : List Line) → verdict (line p 16 ∷ line q 17 ∷ line r 18 ∷ l)
    ≡ (if verdict (line p 16 ∷ line q 17 ∷ line r 18 ∷ []) is 0 then verdict l else verdict (line p 16 ∷ line q 17 ∷ line r 18 ∷ []))
three_first true q r l = refl
three_first false true r l = refl
three_first false false true l = refl
three_first false false false l = refl

abbrev pub word_lines : Board → List ℕ → List Line
word_lines b e = line ((kind_of e is 3) && (word_code b (place_of e) (value_of e) is 19)) 19 ∷ line ((kind_of e is 3) && (word_code b (place_of e) (value_of e) is 20)) 20 ∷ []

pub refusal_is : (b : Board) (e : List ℕ) → sound_board b ≡ true → refusal b e ≡ (if early_at b.size e is 0 then verdict (word_lines b e) else early_at b.size e)
unfolding refusal early_of
refusal_is b e s = rw s (three_first (ltb 7 (kind_of e)) (place_bad b.size (kind_of e) (place_of e)) (value_bad (kind_of e) (value_of e) (last_of e)) (word_lines b e))

-- no early refusal: the place is on the board
pub place_there : (size kind place value last : ℕ) → (early_of size kind place value last is 0) ≡ true → place < size * 2
unfolding early_of
place_there size kind place value last h =
    ltb-true place (size * 2) (go (ltb 7 kind) (ltb place (size * 2)) (ltb kind 3 && not (place is 0)) (value_bad kind value last) h)
  where
    go : (k p q v : Bool) → (verdict (line k 16 ∷ line (not p || q) 17 ∷ line v 18 ∷ []) is 0) ≡ true → p ≡ true
    go true p q v e = absurd (false≢true e)
    go false true q v e = refl
    go false false q v e = absurd (false≢true e)

-- ---- the event read: the code of what is refused is that of the table, and what is not refused is what the event does
pub read_is : (size : ℕ) (e : List ℕ) → code_of (read_of size e) ≡ early_at size e
unfolding read_of early_of
read_is size e =
    by_cases (ltb 7 (kind_of e)) (λ k. rw k) (λ k. rw k
    (by_cases (place_bad size (kind_of e) (place_of e)) (λ p. rw p) (λ p. rw p
    (by_cases (value_bad (kind_of e) (value_of e) (last_of e)) (λ v. rw v) (λ v. rw v)))))

pub by_read : {X : Type 0} (size : ℕ) (e : List ℕ) → ((r : Refusal) → read_of size e ≡ Err r → (number_of r is 0) ≡ false → X) → (read_of size e ≡ Ok (doing_of e) → X) → X
unfolding read_of
by_read size e f g =
    by_cases (ltb 7 (kind_of e)) (λ k. f Kind (rw k) refl) (λ k.
    by_cases (place_bad size (kind_of e) (place_of e)) (λ p. f Place (rw (k, p)) refl) (λ p.
    by_cases (value_bad (kind_of e) (value_of e) (last_of e)) (λ v. f Value (rw (k, p, v)) refl) (λ v. g (rw (k, p, v)))))

-- ---- what was heard, by cases
pub by_heard : {X : Type 0} (awaiting : ℕ) (on_b : Bool) (v : ℕ) → ((w : Word) → heard_of awaiting on_b v ≡ Ok w → X) → (heard_of awaiting on_b v ≡ Err NoForm → X)
    → (heard_of awaiting on_b v ≡ Err NotOnB → X) → X
by_heard awaiting on_b v f g k =
    by_cases (awaiting is 1) (λ a. f (Select v) (rw a)) (λ a.
    by_cases (awaiting is 2) (λ b. f (Mask v) (rw (a, b))) (λ b.
    by_cases (v % 2 is 0) (λ c. f (Vector v) (rw (a, b, c))) (λ c.
    by_cases (v % 16 is 15)
    (λ d. by_cases (on_b && (v / 64 is 2)) (λ e. k (rw (a, b, c, d, e))) (λ e. f (Mode (v / 64)) (rw (a, b, c, d, e))))
    (λ d. by_cases (v % 16 is 7) (λ e. f (Interrupt (bit 7 v) (bit 6 v) (bit 5 v) (bit 4 v)) (rw (a, b, c, d, e))) (λ e.
    by_cases (v % 16 is 3) (λ h. f (Enable (bit 7 v)) (rw (a, b, c, d, e, h))) (λ h. g (rw (a, b, c, d, e, h))))))))

-- ---- an event that is no control word
abbrev pub plain : Event → Bool
plain (Control v) = false
plain (Write v) = true
plain Read = true
plain (Strobe level) = true
plain (Outside v) = true

pub event_plain : (kind v : ℕ) → (kind is 3) ≡ false → plain (event_of kind v) ≡ true
unfolding event_of
event_plain kind v n =
    rw n
    (by_cases (kind is 4) (λ e. rw e) (λ e. rw e
    (by_cases (kind is 5) (λ e. rw e) (λ e. rw e
    (by_cases (kind is 6) (λ e. rw e) (λ e. rw e))))))

pub event_control : (kind v : ℕ) → (kind is 3) ≡ true → event_of kind v ≡ Control v
unfolding event_of
event_control kind v e = rw e
