-- The words that all the definitions use: numbers as rows of bits.
-- Assumes nothing.
use Rattle.std.specs.Prelude.{ℕ, zero, suc, ◌+◌, ◌/◌, ◌%◌, ◌^◌, Bool, true, false, ◌&&◌, ◌||◌, eqb, if◌then◌else◌}

-- m is n: the two numbers are equal
infix 50 ◌is◌
abbrev pub ◌is◌ : ℕ → ℕ → Bool
m is n = eqb m n

-- bit k of n, counted from 0 at the low end
abbrev pub bit : ℕ → ℕ → Bool
bit k n = n / 2 ^ k % 2 is 1

-- f holds of some number below n; of every number below n
abbrev pub some : ℕ → (ℕ → Bool) → Bool
some zero f = false
some (suc n) f = some n f || f n

abbrev pub every : ℕ → (ℕ → Bool) → Bool
every zero f = true
every (suc n) f = every n f && f n

-- the number whose bits below n are f
abbrev pub number : ℕ → (ℕ → Bool) → ℕ
number zero f = 0
number (suc n) f = number n f + (if f n then 2 ^ n else 0)
