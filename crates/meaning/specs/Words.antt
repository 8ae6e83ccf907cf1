-- A word that the statements share.
-- Assumes nothing.
use Rattle.std.specs.Prelude.{List, [], ◌∷◌}
use Rattle.chip.specs.declared.Chip.{Chip}

-- X holds of each chip of a row
abbrev pub Each : (Chip → Type 0) → List Chip → Type 0
Each X [] = Unit {0}
Each X (c ∷ cs) = X c × Each X cs
