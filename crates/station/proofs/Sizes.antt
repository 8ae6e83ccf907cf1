-- A size asked for is 1 to 4, or refused as one. Assumes nothing.
use Rattle.std.proofs.Common.{◌≡◌, ℕ, zero, suc, ◌≤◌, ◌&&◌, leb, List, refl, arith, leb-true}
use Rattle.std.specs.Prelude.{MatchResult}
use Rattle.refusals.specs.declared.Refusal.TheVariants.{Size}
use Rattle.bits.proofs.Logic.{by_cases, both}
use Rattle.text.specs.Panel.{numeral, value_of, size_from, size_or_refusal}

at_most_4 : (text : List ℕ) → size_from text ≤ 4
unfolding size_from
at_most_4 text =
    by_cases (numeral text && leb (value_of 0 text) 4)
    (λ e. rw e (leb-true (value_of 0 text) 4 (both (numeral text) (leb (value_of 0 text) 4) e).1))
    (λ e. rw e (omega arith))

one_to_4 : (n : ℕ) → n ≤ 4 → MatchResult (size_or_refusal n) (λ n. (1 ≤ n) × (n ≤ 4)) (λ r. r ≡ Size)
one_to_4 zero h = refl
one_to_4 (suc n) h = (omega arith, h)

pub asked : (text : List ℕ) → MatchResult (size_or_refusal (size_from text)) (λ n. (1 ≤ n) × (n ≤ 4)) (λ r. r ≡ Size)
asked text = one_to_4 (size_from text) (at_most_4 text)
