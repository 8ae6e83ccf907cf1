-- The bits of both ports that tell who is under service.
-- Assumes nothing.
use mathlib.Core.Bool.{Bool}
use mathlib.Core.List.{List, [], ◌∷◌}
use Rattle.chip.specs.declared.Chip.{Chip}

abbrev pub under : Chip → List Bool
under c = c.a.service ∷ c.b.service ∷ []
