-- Document 02, Ask 1: the nine lines of a recording and their values.
-- Assumes nothing.
use Rattle.std.specs.Prelude.{ℕ, zero, suc, Bool, not, List, [], ◌∷◌, take, if◌then◌else◌}
use Rattle.bits.specs.Bits.{◌is◌}
use Rattle.port.specs.declared.Port.{Port}
use Rattle.chip.specs.declared.Chip.{Chip}
use Rattle.chain.specs.Chain.{flat}

abbrev pub flag : Bool → ℕ
flag on = if on then 1 else 0

-- the Ready lines of n places from the first of `ports` on: "A place not on the board shows 0"
abbrev pub readies : ℕ → List Port → List ℕ
readies zero ports = []
readies (suc n) [] = 0 ∷ readies n []
readies (suc n) (p ∷ ports) = flag p.ready ∷ readies n ports

-- int, which is 1 when the answer's fourth byte is not 0, and rdy0 to rdy7, on a board of this size with these chips
unfoldable pub values_of : ℕ → List Chip → ℕ → List ℕ
values_of size chips request = flag (not (request is 0)) ∷ readies 8 (flat (take size chips))
