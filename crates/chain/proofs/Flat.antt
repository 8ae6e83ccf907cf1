-- Chips laid end to end: a change at one place of the chips is a change at that place of the ports.
-- Assumes nothing.
use mathlib.Core.Path.{◌≡◌, refl, ap}
use mathlib.Core.List.{List, [], ◌∷◌, map}
use Prim.Native.Nat.{ℕ, zero, suc, ◌*◌, ◌/◌, ◌%◌}
use native.Mathlib.Omega.{arith}
use lib.ListN.{length}
use Rattle.port.specs.declared.Port.{Port}
use Rattle.chip.specs.declared.Chip.{Chip}
use Rattle.chip.specs.Chip.{side, on}
use Rattle.bits.specs.Bits.{◌is◌}
use Rattle.chain.specs.Places.{adjust}
use Rattle.chain.specs.Chain.{flat, at_place}

pub flat_length : (cs : List Chip) → length (flat cs) ≡ 2 * length cs
flat_length [] = refl
flat_length (c ∷ cs) = omega (arith, flat_length cs)

-- two places farther is one chip farther
half : (k : ℕ) → suc (suc k) / 2 ≡ suc (k / 2)
half k = omega arith

odd : (k : ℕ) → suc (suc k) % 2 ≡ k % 2
odd k = omega arith

moved : (f : Port → Port) (i r j q : ℕ) (c : Chip) (cs : List Chip) → i ≡ suc j → r ≡ q → adjust (on (side (r is 1)) f) i (c ∷ cs) ≡ c ∷ adjust (on (side (q is 1)) f) j cs
moved f i r j q c cs e h = rw e (ap (λ (x : ℕ). c ∷ adjust (on (side (x is 1)) f) j cs) h)

farther : (f : Port → Port) (k : ℕ) (c : Chip) (cs : List Chip) → at_place f (suc (suc k)) (c ∷ cs) ≡ c ∷ at_place f k cs
farther f k c cs = moved f (suc (suc k) / 2) (suc (suc k) % 2) (k / 2) (k % 2) c cs (half k) (odd k)

pub flat_at : (f : Port → Port) (k : ℕ) (cs : List Chip) → flat (at_place f k cs) ≡ adjust f k (flat cs)
flat_at f k [] = refl
flat_at f zero (c ∷ cs) = refl
flat_at f (suc zero) (c ∷ cs) = refl
flat_at f (suc (suc k)) (c ∷ cs) = rw (farther f k c cs) (ap (λ (l : List Port). c.a ∷ c.b ∷ l) (flat_at f k cs))

-- what is done to both ports of every chip
pub flat_map : (f : Port → Port) (g : Chip → Chip) → ((c : Chip) → ((g c).a ≡ f c.a) × ((g c).b ≡ f c.b)) → (cs : List Chip) → flat (map g cs) ≡ map f (flat cs)
flat_map f g h [] = refl
flat_map f g h (c ∷ cs) = rw ((h c).0, (h c).1, flat_map f g h cs)
