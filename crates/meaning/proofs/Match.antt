-- The match in plain words, line by line.
-- Assumes nothing.
use mathlib.Core.Path.{◌≡◌, refl, sym, subst, ap, ◌∙◌}
use mathlib.Core.Bool.{Bool, true, false, ◌&&◌, ◌||◌, not, beq, false≢true}
use mathlib.Core.Logic.{◌↔◌, ◌⊎◌, inl, inr, ⊎_elim}
use Prim.Native.Nat.{ℕ, zero, suc, ◌<◌}
use native.Mathlib.Nat.{not-suc-le-zero, le_of_suc-le-suc, eq-or-lt_of_le, le_refl}
use native.Mathlib.Omega.{arith}
use borrow.Author.Tests.{not-true}
use Rattle.bits.specs.Bits.{bit, some, every}
use Rattle.bits.specs.Lines.{counts, active, match_of}
use Rattle.bits.proofs.Logic.{both, join, beq_is, beq_self}
use Rattle.meaning.specs.Match.{Counts, OrMatch, AndMatch}

-- ---- Bool's own laws
or_one : (a b : Bool) → (a || b) ≡ true → (a ≡ true) ⊎ (b ≡ true)
or_one true b e = inl refl
or_one false b e = inr e

or_of : (a b : Bool) → (a ≡ true) ⊎ (b ≡ true) → (a || b) ≡ true
or_of true b s = refl
or_of false b s = ⊎_elim (λ e. absurd (false≢true e)) (λ e. e) s

-- ---- `some n f`: f holds of some number below n. `every n f`: of each
some_is : (n : ℕ) (f : ℕ → Bool) → (some n f ≡ true) ↔ ((k : ℕ) × (k < n) × (f k ≡ true))
some_is zero f = (λ e. absurd (false≢true e), λ r. absurd (not-suc-le-zero r.1))
some_is (suc n) f = (
  λ e. ⊎_elim (λ p. let r = (some_is n f).0 p in (r.0, omega (arith, r.1), r.2)) (λ q. (n, le_refl (suc n), q)) (or_one (some n f) (f n) e),
  λ r. or_of (some n f) (f n)
      (⊎_elim (λ e. inr (subst (λ (m : ℕ). f m ≡ true) e r.2)) (λ l. inl ((some_is n f).1 (r.0, l, r.2))) (eq-or-lt_of_le (le_of_suc-le-suc r.1))),
)

every_is : (n : ℕ) (f : ℕ → Bool) → (every n f ≡ true) ↔ ((k : ℕ) → k < n → f k ≡ true)
every_is zero f = (λ e k l. absurd (not-suc-le-zero l), λ h. refl)
every_is (suc n) f = (
  λ e k l.
      let b = both (every n f) (f n) e in
      ⊎_elim (λ p. subst (λ (m : ℕ). f m ≡ true) (sym p) b.1) (λ q. (every_is n f).0 b.0 k q) (eq-or-lt_of_le (le_of_suc-le-suc l)),
  λ h. join (every n f) (f n) ((every_is n f).1 (λ k l. h k (omega arith))) (h n (le_refl (suc n))),
)

-- ---- a match, line by line
counts_is : (select mask k : ℕ) → (counts select mask k ≡ true) ↔ Counts select mask k
counts_is select mask k = (
  λ e. let b = both (bit k select) (not (bit k mask)) e in (b.0, not-true (bit k mask) b.1),
  λ c. join (bit k select) (not (bit k mask)) c.0 (ap not c.1),
)

active_is : (lines : ℕ) (high : Bool) (k : ℕ) → (active lines high k ≡ true) ↔ (bit k lines ≡ high)
active_is lines high k = (beq_is (bit k lines) high, λ e. ap (λ (b : Bool). beq b high) e ∙ beq_self high)

unless : (a b : Bool) → ((not a || b) ≡ true) ↔ (a ≡ true → b ≡ true)
unless true b = (λ e p. e, λ h. h refl)
unless false b = (λ e p. absurd (false≢true p), λ h. refl)

pub or_match : OrMatch
unfolding match_of
or_match select mask lines high = (
  λ e.
      let r = (some_is 8 (λ k. counts select mask k && active lines high k)).0 e in
      let b = both (counts select mask r.0) (active lines high r.0) r.2 in
      (r.0, r.1, ((counts_is select mask r.0).0 b.0, (active_is lines high r.0).0 b.1)),
  λ r. (some_is 8 (λ k. counts select mask k && active lines high k)).1
      (r.0, r.1, join (counts select mask r.0) (active lines high r.0) ((counts_is select mask r.0).1 r.2.0) ((active_is lines high r.0).1 r.2.1)),
)

pub and_match : AndMatch
unfolding match_of
and_match select mask lines high = (
  λ e.
      let b = both (some 8 (counts select mask)) (every 8 (λ k. not (counts select mask k) || active lines high k)) e in
      let r = (some_is 8 (counts select mask)).0 b.0 in (
        (r.0, r.1, (counts_is select mask r.0).0 r.2),
        λ k l c. (active_is lines high k).0
            ((unless (counts select mask k) (active lines high k)).0 ((every_is 8 (λ j. not (counts select mask j) || active lines high j)).0 b.1 k l) ((counts_is select mask k).1 c)),
      ),
  λ h. join (some 8 (counts select mask)) (every 8 (λ k. not (counts select mask k) || active lines high k))
      ((some_is 8 (counts select mask)).1 (h.0.0, h.0.1, (counts_is select mask h.0.0).1 h.0.2))
      ((every_is 8 (λ k. not (counts select mask k) || active lines high k)).1
      (λ k l. (unless (counts select mask k) (active lines high k)).1 (λ c. (active_is lines high k).1 (h.1 k l ((counts_is select mask k).0 c))))),
)
