-- Laws of lists by index, for any number of places.
-- Assumes nothing.
use mathlib.Core.Path.{◌≡◌, refl, ap}
use mathlib.Core.List.{List, [], ◌∷◌}
use Prim.Native.Nat.{ℕ, zero, suc, ◌≤◌, ◌<◌}
use native.Mathlib.Nat.{not-suc-le-zero, le_of_suc-le-suc}
use native.Mathlib.Omega.{arith}
use lib.ListN.{length, get_or, set, drop}
use Rattle.chain.specs.Places.{adjust}

module _ {A : Type 0} where
  pub adjust_length : (f : A → A) (k : ℕ) (l : List A) → length (adjust f k l) ≡ length l
  adjust_length f k [] = refl
  adjust_length f zero (x ∷ l) = refl
  adjust_length f (suc k) (x ∷ l) = rw (adjust_length f k l)

  -- an adjusted index is an index set: what code stores
  pub adjust_set : (f : A → A) (k : ℕ) (l : List A) (d : A) → adjust f k l ≡ set l k (f (get_or l k d))
  adjust_set f k [] d = refl
  adjust_set f zero (x ∷ l) d = refl
  adjust_set f (suc k) (x ∷ l) d = rw (adjust_set f k l d)

  -- beyond the end nothing is adjusted
  pub adjust_beyond : (f : A → A) (l : List A) → adjust f (length l) l ≡ l
  adjust_beyond f [] = refl
  adjust_beyond f (x ∷ l) = ap (λ (m : List A). x ∷ m) (adjust_beyond f l)

  -- nor set
  pub set_beyond : (l : List A) (k : ℕ) (x : A) (m : ℕ) → length l ≡ m → m ≤ k → l ≡ set l k x
  set_beyond [] k x m e h = refl
  set_beyond (y ∷ l) zero x m e h = absurd (omega (arith, e))
  set_beyond (y ∷ l) (suc k) x zero e h = absurd (omega (arith, e))
  set_beyond (y ∷ l) (suc k) x (suc m) e h = ap (λ (r : List A). y ∷ r) (set_beyond l k x m (omega (arith, e)) (le_of_suc-le-suc h))

  -- the list from index i on
  pub drop_at : (l : List A) (i : ℕ) (d : A) → i < length l → drop i l ≡ get_or l i d ∷ drop (suc i) l
  drop_at [] i d h = absurd (not-suc-le-zero h)
  drop_at (x ∷ l) zero d h = refl
  drop_at (x ∷ l) (suc i) d h = drop_at l i d (le_of_suc-le-suc h)
