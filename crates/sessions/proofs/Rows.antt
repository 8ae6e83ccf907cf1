-- How the theorems of single rows make that of all of them.
-- Assumes nothing.
use mathlib.Core.Path.{◌≡◌, refl}
use mathlib.Core.Bool.{true}
use mathlib.Core.List.{List, [], ◌∷◌}
use Rattle.sessions.specs.Rows.{Row, kept, SessionsHold}

infixr 20 ◌also◌
pub data Each : List Row → Type 0 where
  none : Each []
  ◌also◌ : {r : Row} {rs : List Row} → kept r ≡ true → Each rs → Each (r ∷ rs)

pub together : (rs : List Row) → Each rs → SessionsHold rs
together [] none = refl
together (r ∷ rs) (one also rest) = rw one (together rs rest)
