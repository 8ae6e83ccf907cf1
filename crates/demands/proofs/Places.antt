-- Laws of bits and places, over any number of places: the list of set places, farthest first, when one is set or cleared.
-- Assumes nothing.
use mathlib.Core.Path.{◌≡◌, refl}
use mathlib.Core.Bool.{Bool, true, false, ◌&&◌, and-true, and-false}
use mathlib.Core.List.{List, [], ◌∷◌, ◌++◌, map, tail, drop_last, reverse, reverse-cons}
use Prim.Native.Nat.{ℕ, zero, suc, ◌≤◌, ◌<◌}
use native.Mathlib.Nat.{not-suc-le-zero, le_of_suc-le-suc}
use native.Mathlib.Omega.{arith}
use lib.Dec.{ltb, leb-zero, leb-suc-suc}
use lib.ListN.{length, set}
use borrow.Author.Tests.{le-ltb}
use Rattle.chain.specs.Places.{first, places, adjust}
use Rattle.demands.specs.Words.{Nearing, nearer}

-- ---- the nearest set place
pub first_set : (s : List Bool) (k : ℕ) → k < first s → first (set s k true) ≡ k
first_set [] k h = absurd (not-suc-le-zero h)
first_set (true ∷ s) k h = absurd (not-suc-le-zero h)
first_set (false ∷ s) zero h = refl
first_set (false ∷ s) (suc k) h = rw (first_set s k (le_of_suc-le-suc h))

pub first_clear : (s : List Bool) → first s ≤ first (set s (first s) false)
first_clear [] = omega arith
first_clear (true ∷ s) = omega arith
first_clear (false ∷ s) = omega (arith, first_clear s)

pub first_short : (s : List Bool) → first s ≤ length s
first_short [] = omega arith
first_short (true ∷ s) = omega arith
first_short (false ∷ s) = omega (arith, first_short s)

-- ---- the set places, nearest first
places_set : (s : List Bool) (k : ℕ) → k < first s → places (set s k true) ≡ k ∷ places s
places_set [] k h = absurd (not-suc-le-zero h)
places_set (true ∷ s) k h = absurd (not-suc-le-zero h)
places_set (false ∷ s) zero h = refl
places_set (false ∷ s) (suc k) h = rw (places_set s k (le_of_suc-le-suc h))

tail_map : (l : List ℕ) → map suc (tail l) ≡ tail (map suc l)
tail_map [] = refl
tail_map (x ∷ l) = refl

places_clear : (s : List Bool) → places (set s (first s) false) ≡ tail (places s)
places_clear [] = refl
places_clear (true ∷ s) = refl
places_clear (false ∷ s) = rw (places_clear s, tail_map)

-- ---- and farthest first: a nearer place comes last, and the nearest is the last
drop_snoc : (l : List ℕ) (x : ℕ) → drop_last (l ++ (x ∷ [])) ≡ l
drop_snoc [] x = refl
drop_snoc (a ∷ []) x = refl
drop_snoc (a ∷ b ∷ l) x = rw (drop_snoc (b ∷ l) x)

reverse_tail : (l : List ℕ) → reverse (tail l) ≡ drop_last (reverse l)
reverse_tail [] = refl
reverse_tail (x ∷ l) = rw (reverse-cons x l, drop_snoc)

pub farthest_set : (s : List Bool) (k : ℕ) → k < first s → reverse (places (set s k true)) ≡ reverse (places s) ++ (k ∷ [])
farthest_set s k h = rw (places_set s k h) (reverse-cons k (places s))

pub farthest_clear : (s : List Bool) → reverse (places (set s (first s) false)) ≡ drop_last (reverse (places s))
farthest_clear s = rw (places_clear s) (reverse_tail (places s))

-- ---- their order, and who stands nearer than all of them
pub map_snoc : (l : List ℕ) (x : ℕ) → map suc (l ++ (x ∷ [])) ≡ map suc l ++ (suc x ∷ [])
map_snoc [] x = refl
map_snoc (a ∷ l) x = rw (map_snoc l x)

pub reverse_map : (l : List ℕ) → reverse (map suc l) ≡ map suc (reverse l)
reverse_map [] = refl
reverse_map (x ∷ l) = rw (reverse-cons (suc x) (map suc l), reverse-cons x l, map_snoc, reverse_map l)

nearing_suc : (n : ℕ) (l : List ℕ) → Nearing n l → Nearing (suc n) (map suc l)
nearing_suc n [] h = tt
nearing_suc n (k ∷ l) h = (omega arith, nearing_suc k l h.1)

nearing_zero : (n : ℕ) (l : List ℕ) → Nearing n l → Nearing (suc n) (map suc l ++ (zero ∷ []))
nearing_zero n [] h = (omega arith, tt)
nearing_zero n (k ∷ l) h = (omega arith, nearing_zero k l h.1)

pub nearing_places : (s : List Bool) → Nearing (length s) (reverse (places s))
nearing_places [] = tt
nearing_places (true ∷ s) = rw (reverse-cons zero (map suc (places s)), reverse_map) (nearing_zero (length s) (reverse (places s)) (nearing_places s))
nearing_places (false ∷ s) = rw reverse_map (nearing_suc (length s) (reverse (places s)) (nearing_places s))

pub nearing_short : (n : ℕ) (l : List ℕ) → Nearing n l → length l ≤ n
nearing_short n [] h = omega arith
nearing_short n (k ∷ l) h = omega (arith, nearing_short k l h.1)

nearer_zero : (l : List ℕ) → nearer 0 (map suc l) ≡ true
nearer_zero [] = refl
nearer_zero (k ∷ l) = rw (leb-suc-suc, leb-zero, nearer_zero l)

nearer_suc : (w : ℕ) (l : List ℕ) → nearer (suc w) (map suc l) ≡ nearer w l
nearer_suc w [] = refl
nearer_suc w (k ∷ l) = rw (leb-suc-suc, nearer_suc w l)

-- nearer than the nearest is nearer than all
nearer_nearest : (w : ℕ) (s : List Bool) → ltb w (first s) ≡ (ltb w (length s) && nearer w (places s))
nearer_nearest w [] = rw and-true
nearer_nearest w (true ∷ s) = rw (le-ltb w 0 (omega arith), and-false)
nearer_nearest zero (false ∷ s) = rw (leb-suc-suc 0 (first s), leb-zero, leb-suc-suc 0 (length s), leb-zero, nearer_zero (places s))
nearer_nearest (suc w) (false ∷ s) = simp (leb-suc-suc, nearer_suc w (places s)) (nearer_nearest w s)

swap : (a b c : Bool) → (a && (b && c)) ≡ (b && (a && c))
swap true b c = refl
swap false true c = refl
swap false false c = refl

nearer_snoc : (w : ℕ) (l : List ℕ) (x : ℕ) → nearer w (l ++ (x ∷ [])) ≡ (ltb w x && nearer w l)
nearer_snoc w [] x = refl
nearer_snoc w (a ∷ l) x = rw (nearer_snoc w l x) (swap (ltb w a) (ltb w x) (nearer w l))

nearer_reverse : (w : ℕ) (l : List ℕ) → nearer w (reverse l) ≡ nearer w l
nearer_reverse w [] = refl
nearer_reverse w (x ∷ l) = rw (reverse-cons x l, nearer_snoc w (reverse l) x, nearer_reverse w l)

pub nearer_first : (w : ℕ) (s : List Bool) → ltb w (first s) ≡ (ltb w (length s) && nearer w (reverse (places s)))
nearer_first w s = rw nearer_reverse (nearer_nearest w s)

-- ---- what a change at one index does to the bits of a list
module _ {A : Type 0} (g : A → Bool) (f : A → A) where
  pub bits_set : (v : Bool) → ((x : A) → g (f x) ≡ v) → (k : ℕ) (l : List A) → map g (adjust f k l) ≡ set (map g l) k v
  bits_set v e k [] = refl
  bits_set v e zero (x ∷ l) = rw (e x)
  bits_set v e (suc k) (x ∷ l) = rw (bits_set v e k l)
