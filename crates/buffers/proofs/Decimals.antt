-- The rule of the digits, and how many there are. Assumes nothing.
use mathlib.Core.Path.{◌≡◌, ap, ◌∙◌}
use mathlib.Core.Logic.{⊎_elim}
use mathlib.Core.List.{[], ◌∷◌, ◌++◌}
use Prim.Native.Nat.{ℕ, zero, suc, ◌+◌, ◌/◌, ◌%◌, ◌^◌, ◌≤◌, ◌<◌}
use native.Mathlib.Nat.{not-suc-le-zero, eq-zero-or-pos}
use native.Mathlib.Omega.{arith}
use lib.ListN.{length, length-append}
use borrow.Author.Tests.{lt-ltb, le-ltb}
use Rattle.buffers.specs.Digits.{digits_up, digits_of}

-- how deep does not matter
enough : (f g n : ℕ) → n < f → n < g → digits_up f n ≡ digits_up g n
unfolding digits_up
enough zero g n hf hg = absurd (not-suc-le-zero hf)
enough (suc f) zero n hf hg = absurd (not-suc-le-zero hg)
enough (suc f) (suc g) n hf hg =
    ⊎_elim
    (λ e. rw (lt-ltb n 10 (omega arith)))
    (λ p. rw (le-ltb n 10 (omega arith), enough f g (n / 10) (omega arith) (omega arith)))
    (eq-zero-or-pos (n / 10))

-- a number below ten is one digit
pub digits_one : (n : ℕ) → n < 10 → digits_of n ≡ (48 + n) ∷ []
unfolding digits_of digits_up
digits_one n h = rw (lt-ltb n 10 h)

-- any other has the digits of n / 10, and n % 10 behind them
pub digits_more : (n : ℕ) → 10 ≤ n → digits_of n ≡ digits_of (n / 10) ++ ((48 + n % 10) ∷ [])
unfolding digits_of digits_up
digits_more n h = rw (le-ltb n 10 h, enough n (suc (n / 10)) (n / 10) (omega arith) (omega arith))

-- the same of how many there are
pub length_one : (n : ℕ) → n < 10 → length (digits_of n) ≡ 1
length_one n h = ap length (digits_one n h)

pub length_more : (n : ℕ) → 10 ≤ n → length (digits_of n) ≡ length (digits_of (n / 10)) + 1
length_more n h = ap length (digits_more n h) ∙ length-append (digits_of (n / 10)) ((48 + n % 10) ∷ [])

-- a number below 10 ^ suc k has at most suc k digits
pub length_below : (k n : ℕ) → n < 10 ^ suc k → length (digits_of n) ≤ suc k
length_below zero n h = omega (arith, length_one n (omega arith))
length_below (suc k) n h =
    ⊎_elim
    (λ e. omega (arith, length_one n (omega arith)))
    (λ p. omega (arith, length_more n (omega arith), length_below k (n / 10) (omega arith)))
    (eq-zero-or-pos (n / 10))

positive : (k : ℕ) → 0 < 10 ^ k
positive zero = omega arith
positive (suc k) = omega (arith, positive k)

-- one of at least 10 ^ k, and below 10 ^ suc k, has suc k digits
pub length_between : (k n : ℕ) → 10 ^ k ≤ n → n < 10 ^ suc k → length (digits_of n) ≡ suc k
length_between zero n l h = length_one n (omega arith)
length_between (suc k) n l h = let shorter = length_between k (n / 10) (omega arith) (omega arith) in omega (arith, length_more n (omega (arith, positive k)), shorter)
