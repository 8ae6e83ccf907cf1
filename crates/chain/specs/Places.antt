-- Places on the chain, nearest the CPU first, for any number of them.
-- Assumes nothing.
use Rattle.std.specs.Prelude.{Bool, true, false, List, [], ◌∷◌, map, ℕ, zero, suc}

-- the nearest place whose bit is set; the number of places if none is
abbrev pub first : List Bool → ℕ
first [] = zero
first (true ∷ s) = zero
first (false ∷ s) = suc (first s)

-- the places whose bits are set, nearest first
abbrev pub places : List Bool → List ℕ
places [] = []
places (true ∷ s) = zero ∷ map suc (places s)
places (false ∷ s) = map suc (places s)

-- the list with f at index k; as it was if there is no such index
module _ {A : Type 0} where
  abbrev pub adjust : (A → A) → ℕ → List A → List A
  adjust f k [] = []
  adjust f zero (x ∷ xs) = f x ∷ xs
  adjust f (suc k) (x ∷ xs) = x ∷ adjust f k xs
