-- The observer's decoder, over the bytes fetched, and the product's, over what it remembers, say the same.
-- Assumes nothing.
use mathlib.Core.Path.{◌≡◌}
use mathlib.Core.Bool.{not, and-false}
use mathlib.Core.List.{List, ◌∷◌}
use Prim.Native.Nat.{ℕ, suc, ◌%◌}
use native.Mathlib.Omega.{arith}
use borrow.Author.Tests.{eqb-true, eqb-false, eq-eqb, ne_eqb}
use Rattle.bits.specs.Bits.{◌is◌}
use Rattle.bits.proofs.Logic.{by_cases}
use Rattle.chain.specs.declared.Decoder.{Decoder}
use Rattle.chain.specs.Decode.{next_of, reti_of}
use Rattle.demands.specs.Observer.{prefixes, opened, decoded}
use Rattle.demands.specs.Words.{remembered}

-- one more ED opens what was shut and shuts what was open
one_more : (n : ℕ) → (suc n % 2 is 1) ≡ not (n % 2 is 1)
one_more n = by_cases (n % 2 is 1)
    (λ e. let odd = eqb-true (n % 2) 1 e in rw e (ne_eqb (suc n % 2) 1 (λ i. omega (arith, i))))
    (λ e. let even = eqb-false (n % 2) 1 e in rw e (eq-eqb (suc n % 2) 1 (omega arith)))

module _ (d : Decoder) (history : List ℕ) (tied : d.prefix ≡ remembered history) where
  pub reti_is : (byte : ℕ) → reti_of d byte ≡ decoded history byte
  unfolding reti_of
  reti_is byte = rw tied (by_cases (opened history) (λ e. rw e) (λ e. rw e))

  pub next_is : (byte : ℕ) → (next_of d byte).prefix ≡ remembered (byte ∷ history)
  unfolding next_of
  next_is byte = rw tied
      (by_cases (byte is 0xED)
      (λ e. rw (e, one_more (prefixes history)) (by_cases (opened history) (λ o. rw o) (λ o. rw o)))
      (λ e. rw (e, and-false)))
