-- The two searches along the marks: what the loop knows before index i. A find at i is 2 * i places farther than on the rest alone.
-- Assumes nothing.
use mathlib.Core.Path.{◌≡◌, refl, sym, ap, ◌∙◌}
use mathlib.Core.List.{List, ◌∷◌}
use Prim.Native.Nat.{ℕ, zero, suc, ◌+◌, ◌*◌, ◌/◌, ◌%◌, ◌≤◌, ◌<◌}
use native.Mathlib.Omega.{arith}
use lib.ListN.{length, get_or, drop, drop_of_length-le}
use borrow.Author.Tests.{eq-eqb, ne_eqb}
use Rattle.chain.specs.Marks.{up, caller_of, holder_of}
use Rattle.chain.proofs.Places.{drop_at}

-- i chips farther
abbrev pub raised : ℕ → ℕ → ℕ
raised i zero = zero
raised i (suc k) = suc k + 2 * i

raised_none : (n : ℕ) → raised 0 n ≡ n
raised_none zero = refl
raised_none (suc n) = omega arith

raised_up : (i n : ℕ) → raised i (up n) ≡ raised (i + 1) n
raised_up i zero = refl
raised_up i (suc n) = omega arith

raised_some : (i m : ℕ) → (m ≡ 0 → ⊥) → 2 * i + m ≡ raised i m
raised_some i zero h = absurd (h refl)
raised_some i (suc m) h = omega arith

-- where the search stands: the rest of it, from here, gives the whole answer
abbrev pub Searching : (List ℕ → ℕ) → List ℕ → ℕ → Type 0
Searching f l i = raised i (f (drop i l)) ≡ f l

pub begins : (f : List ℕ → ℕ) (l : List ℕ) → Searching f l 0
begins f l = raised_none (f l)

module _ (l : List ℕ) (i : ℕ) (h : i < length l) where
  here : drop i l ≡ get_or l i 0 ∷ drop (i + 1) l
  here = let e : suc i ≡ i + 1 = omega arith in drop_at l i 0 h ∙ ap (λ (k : ℕ). get_or l i 0 ∷ drop k l) e

  pub caller_past : Searching caller_of l i → get_or l i 0 % 4 ≡ 0 → Searching caller_of l (i + 1)
  unfolding caller_of
  caller_past s z = sym (raised_up i (caller_of (drop (i + 1) l))) ∙ (rw (here, eq-eqb (get_or l i 0 % 4) 0 z) at s)

  pub caller_here : Searching caller_of l i → (get_or l i 0 % 4 ≡ 0 → ⊥) → (get_or l i 0 % 4 ≡ 3 → ⊥) → 2 * i + get_or l i 0 % 4 ≡ caller_of l
  unfolding caller_of
  caller_here s z t = raised_some i (get_or l i 0 % 4) z ∙ (rw (here, ne_eqb (get_or l i 0 % 4) 0 z, ne_eqb (get_or l i 0 % 4) 3 t) at s)

  pub caller_shut : Searching caller_of l i → get_or l i 0 % 4 ≡ 3 → 0 ≡ caller_of l
  unfolding caller_of
  caller_shut s t = rw (here, t) at s

  pub holder_past : Searching holder_of l i → get_or l i 0 / 4 % 4 ≡ 0 → Searching holder_of l (i + 1)
  unfolding holder_of
  holder_past s z = sym (raised_up i (holder_of (drop (i + 1) l))) ∙ (rw (here, eq-eqb (get_or l i 0 / 4 % 4) 0 z) at s)

  pub holder_here : Searching holder_of l i → (get_or l i 0 / 4 % 4 ≡ 0 → ⊥) → 2 * i + get_or l i 0 / 4 % 4 ≡ holder_of l
  unfolding holder_of
  holder_here s z = raised_some i (get_or l i 0 / 4 % 4) z ∙ (rw (here, ne_eqb (get_or l i 0 / 4 % 4) 0 z) at s)

pub caller_ends : (l : List ℕ) (i : ℕ) → Searching caller_of l i → length l ≤ i → 0 ≡ caller_of l
unfolding caller_of
caller_ends l i s h = rw (drop_of_length-le l {i = i} h) at s

pub holder_ends : (l : List ℕ) (i : ℕ) → Searching holder_of l i → length l ≤ i → 0 ≡ holder_of l
unfolding holder_of
holder_ends l i s h = rw (drop_of_length-le l {i = i} h) at s
