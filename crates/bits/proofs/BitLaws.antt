-- Laws of bits.
-- Assumes nothing.
use Rattle.std.specs.Prelude.{if◌then◌else◌}
use mathlib.Core.Path.{◌≡◌, refl, sym, ap, ap₂, ◌∙◌, subst}
use mathlib.Core.Bool.{Bool, true, false, ◌&&◌, ◌||◌, not, beq}
use mathlib.Core.Logic.{⊎_elim}
use Prim.Native.Nat.{ℕ, zero, suc, ◌+◌, ◌-◌, ◌/◌, ◌%◌, ◌^◌, ◌<◌}
use native.Mathlib.Nat.{mod-lt, zero-lt-suc, not-suc-le-zero, le_of_suc-le-suc, eq-or-lt_of_le, le_refl}
use native.Mathlib.Omega.{arith}
use lib.Dec.{T, eqb, eqb→eq}
use lib.Bits.{bit_and, bit_or, and_shr, and_mod, and_le_l, or_shr, or_mod}
use Rattle.bits.specs.Bits.{bit, some, every, number}

-- ---- a test at every number below n, which antt computes, holds at each of them
and_left : (a b : Bool) → T (a && b) → T a
and_left true b t = tt
and_left false b t = t

and_right : (a b : Bool) → T (a && b) → T b
and_right true b t = t
and_right false b t = absurd t

pub below : (n : ℕ) (f : ℕ → Bool) → T (every n f) → (k : ℕ) → k < n → T (f k)
below zero f t k h = absurd (not-suc-le-zero h)
below (suc n) f t k h =
    ⊎_elim (λ e. subst (λ (m : ℕ). T (f m)) (sym e) (and_right (every n f) (f n) t))
    (λ l. below n f (and_left (every n f) (f n) t) k l)
    (eq-or-lt_of_le (le_of_suc-le-suc h))

pub same : (a b : Bool) → T (beq a b) → a ≡ b
same true true t = refl
same true false t = absurd t
same false true t = absurd t
same false false t = refl

-- ---- two rows that agree below n
pub some_ext : (n : ℕ) (f g : ℕ → Bool) → ((k : ℕ) → k < n → f k ≡ g k) → some n f ≡ some n g
some_ext zero f g h = refl
some_ext (suc n) f g h = ap₂ ◌||◌ (some_ext n f g (λ k l. h k (omega arith))) (h n (le_refl (suc n)))

pub every_ext : (n : ℕ) (f g : ℕ → Bool) → ((k : ℕ) → k < n → f k ≡ g k) → every n f ≡ every n g
every_ext zero f g h = refl
every_ext (suc n) f g h = ap₂ ◌&&◌ (every_ext n f g (λ k l. h k (omega arith))) (h n (le_refl (suc n)))

-- ---- bit k of a & b, at any width
and_digit : (u v : ℕ) → u < 2 → v < 2 → eqb (bit_and u v) 1 ≡ (eqb u 1 && eqb v 1)
and_digit zero v hu hv = refl
and_digit (suc zero) zero hu hv = refl
and_digit (suc zero) (suc zero) hu hv = refl
and_digit (suc zero) (suc (suc v)) hu hv = absurd (omega arith)
and_digit (suc (suc u)) v hu hv = absurd (omega arith)

pub bit_and_lem : (k a b : ℕ) → bit k (bit_and a b) ≡ (bit k a && bit k b)
bit_and_lem k a b =
    rw (and_shr a b k, and_mod (a / 2 ^ k) (b / 2 ^ k) 1)
    (and_digit (a / 2 ^ k % 2) (b / 2 ^ k % 2) (mod-lt (a / 2 ^ k) (zero-lt-suc 1)) (mod-lt (b / 2 ^ k) (zero-lt-suc 1)))

-- ---- of a byte, by a test that antt computes at all 256: bit k of !a; a is 0 where it has no bit, and not where it has one
not_test : ℕ → Bool
not_test a = every 8 (λ k. beq (bit k (255 - a)) (not (bit k a)))

pub bit_not : (k a : ℕ) → k < 8 → a < 256 → bit k (255 - a) ≡ not (bit k a)
unfolding not_test
bit_not k a hk ha = same _ _ (below 8 (λ j. beq (bit j (255 - a)) (not (bit j a))) (below 256 not_test tt a ha) k hk)

zero_test : ℕ → Bool
zero_test a = beq (eqb a 0) (every 8 (λ k. not (bit k a)))

pub is_zero : (a : ℕ) → a < 256 → eqb a 0 ≡ every 8 (λ k. not (bit k a))
unfolding zero_test
is_zero a ha = same _ _ (below 256 zero_test tt a ha)

some_test : ℕ → Bool
some_test a = beq (not (eqb a 0)) (some 8 (λ k. bit k a))

pub not_zero : (a : ℕ) → a < 256 → not (eqb a 0) ≡ some 8 (λ k. bit k a)
unfolding some_test
not_zero a ha = same _ _ (below 256 some_test tt a ha)

-- ---- a & b of bytes against 0
and_fits : (a b : ℕ) → a < 256 → bit_and a b < 256
and_fits a b h = omega (arith, and_le_l a b)

pub and_some : (a b : ℕ) → a < 256 → not (eqb (bit_and a b) 0) ≡ some 8 (λ k. bit k a && bit k b)
and_some a b h = not_zero (bit_and a b) (and_fits a b h) ∙ some_ext 8 _ _ (λ k l. bit_and_lem k a b)

pub and_none : (a b : ℕ) → a < 256 → eqb (bit_and a b) 0 ≡ every 8 (λ k. not (bit k a && bit k b))
and_none a b h = is_zero (bit_and a b) (and_fits a b h) ∙ every_ext 8 _ _ (λ k l. ap not (bit_and_lem k a b))

-- ---- bit k of a | b, at any width
or_digit : (u v : ℕ) → u < 2 → v < 2 → eqb (bit_or u v) 1 ≡ (eqb u 1 || eqb v 1)
or_digit zero v hu hv = refl
or_digit (suc zero) zero hu hv = refl
or_digit (suc zero) (suc zero) hu hv = refl
or_digit (suc zero) (suc (suc v)) hu hv = absurd (omega arith)
or_digit (suc (suc u)) v hu hv = absurd (omega arith)

pub bit_or_lem : (k a b : ℕ) → bit k (bit_or a b) ≡ (bit k a || bit k b)
bit_or_lem k a b =
    rw (or_shr a b k, or_mod (a / 2 ^ k) (b / 2 ^ k) 1)
    (or_digit (a / 2 ^ k % 2) (b / 2 ^ k % 2) (mod-lt (a / 2 ^ k) (zero-lt-suc 1)) (mod-lt (b / 2 ^ k) (zero-lt-suc 1)))

-- ---- a byte is the number of its bits
pub number_ext : (n : ℕ) (f g : ℕ → Bool) → ((k : ℕ) → k < n → f k ≡ g k) → number n f ≡ number n g
number_ext zero f g h = refl
number_ext (suc n) f g h =
    ap₂ ◌+◌ (number_ext n f g (λ k l. h k (omega arith))) (ap (λ (b : Bool). if b then 2 ^ n else 0) (h n (le_refl (suc n))))

number_test : ℕ → Bool
number_test a = eqb a (number 8 (λ k. bit k a))

pub byte_is : (a : ℕ) → a < 256 → a ≡ number 8 (λ k. bit k a)
unfolding number_test
byte_is a ha = eqb→eq a (number 8 (λ k. bit k a)) (below 256 number_test tt a ha)

-- so a byte with the bits f is the number of f
pub byte_of : (a : ℕ) (f : ℕ → Bool) → a < 256 → ((k : ℕ) → k < 8 → bit k a ≡ f k) → a ≡ number 8 f
byte_of a f ha h = byte_is a ha ∙ number_ext 8 (λ k. bit k a) f h
