-- The words before the system's number are those before its first place in the text. Assumes nothing.
use Rattle.std.proofs.Common.{◌≡◌, ℕ, zero, suc, ◌<◌, ◌≤◌, true, false, List, [], ◌∷◌, ◌++◌, length, take, drop, refl, ap, arith, eq-eqb, eqb-true}
use mathlib.Core.Bool.{false≢true}
use Rattle.std.proofs.Math.Seq.{take-nil}
use Rattle.std.specs.Str.Pattern.{LacksTextAt}
use Rattle.bits.specs.Bits.{◌is◌}
use Rattle.bits.proofs.Logic.{by_cases, both, join}
use Rattle.station.specs.Failures.{begins, before}

begins_with : (bytes rest : List ℕ) → begins bytes (bytes ++ rest) ≡ true
begins_with [] rest = refl
begins_with (b ∷ bs) rest = join (b is b) (begins bs (bs ++ rest)) (eq-eqb b b refl) (begins_with bs rest)

begun : (bytes text : List ℕ) → begins bytes text ≡ true → text ≡ bytes ++ drop (length bytes) text
begun [] text e = refl
begun (b ∷ bs) [] e = absurd (false≢true e)
begun (b ∷ bs) (c ∷ cs) e = let two = both (b is c) (begins bs cs) e in rw (eqb-true b c two.0) (ap (λ l. c ∷ l) (begun bs cs two.1))

lacking : (bytes text : List ℕ) → LacksTextAt bytes text 0 → begins bytes text ≡ false
lacking bytes text none = by_cases (begins bytes text) (λ e. absurd (none (drop (length bytes) text) (begun bytes text e))) (λ e. e)

-- the bytes stand at i, and nowhere before
pub found : (bytes text rest : List ℕ) (i : ℕ) → ((k : ℕ) → k < i → LacksTextAt bytes text k) → drop i text ≡ bytes ++ rest → take i text ≡ before bytes text
found bytes [] rest i none has = take-nil i
found bytes (c ∷ cs) rest zero none has = let e : begins bytes (c ∷ cs) ≡ true = rw has (begins_with bytes rest) in rw e refl
found bytes (c ∷ cs) rest (suc i) none has = rw (lacking bytes (c ∷ cs) (none 0 (omega arith))) (ap (λ l. c ∷ l) (found bytes cs rest i (λ k h. none (suc k) (omega arith)) has))

-- the bytes stand nowhere
pub lost : (bytes text : List ℕ) → ((k : ℕ) → k ≤ length text → LacksTextAt bytes text k) → text ≡ before bytes text
lost bytes [] none = refl
lost bytes (c ∷ cs) none =
    rw (lacking bytes (c ∷ cs) (none 0 (omega arith)), ← lost bytes cs (λ k h. none (suc k) (omega arith)))
