-- The laws of a size that is read digit by digit. Assumes nothing.
use Rattle.std.specs.Prelude.{if◌then◌else◌}
use Rattle.std.proofs.Common.{◌≡◌, ℕ, ◌+◌, ◌-◌, ◌*◌, ◌<◌, ◌≤◌, Bool, true, false, ◌&&◌, leb, List, [], ◌∷◌, length, get_or, drop, sym, refl, ◌∙◌, add-one, arith, drop-cons}
use borrow.Author.Tests.{lt-leb}
use Rattle.text.specs.Panel.{numeral, value_of, size_from}

-- the size that the digits so far, n, and the text behind them come to
abbrev from : ℕ → List ℕ → ℕ
from n ds = if numeral ds && leb (value_of n ds) 4 then value_of n ds else 0

-- more digits make no number smaller
grows : (n : ℕ) (ds : List ℕ) → n ≤ value_of n ds
grows n [] = omega arith
grows n (d ∷ ds) = omega (arith, grows (10 * n + (d - 48)) ds)

never : (b : Bool) (m : ℕ) → (if b && false then m else 0) ≡ 0
never true m = refl
never false m = refl

-- where the reader stands before byte i
pub record Reading (text : List ℕ) (n i : ℕ) : Type 0 where
  pub small : n ≤ 4
  pub rest : from n (drop i text) ≡ size_from text

-- a number above 4 stays above 4
pub beyond : {text : List ℕ} {n i : ℕ} → i < length text → Reading text n i → 4 < 10 * n + (get_or text i 0 - 48) → size_from text ≡ 0
beyond {text} {n} {i} h w much =
    let d = get_or text i 0 in
    let more = drop (i + 1) text in
    let split : drop i text ≡ d ∷ more = rw add-one (drop-cons text i 0 h) in
    let large = lt-leb (value_of n (d ∷ more)) 4 (omega (arith, grows (10 * n + (d - 48)) more)) in
    sym w.rest ∙ rw (split, large) (never (numeral (d ∷ more)) (value_of n (d ∷ more)))
