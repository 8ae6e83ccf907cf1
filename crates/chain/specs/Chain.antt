-- Document 01, "Chain and RETI": who asks, who answers, who is released, over the ports in the order of their places.
-- Assumes nothing.
use Rattle.std.specs.Prelude.{Bool, true, ◌&&◌, not, List, [], ◌∷◌, map, ℕ, ◌/◌, ◌%◌, ltb, length}
use Rattle.bits.specs.Bits.{◌is◌}
use Rattle.port.specs.Rules.{served, released}
use Rattle.port.specs.declared.Port.{Port}
use Rattle.chip.specs.declared.Chip.{Chip}
use Rattle.chip.specs.Chip.{Side, side, on}
use Rattle.chain.specs.Places.{first, adjust}

-- the most chips that a chain can have
abbrev pub most : ℕ
most = 4

abbrev pub ready : Port → Bool
ready p = p.waiting && p.live

abbrev pub under : Port → Bool
under p = p.service

-- "A port asks if it waits, is live, and neither it nor a nearer port is under service." `free`: no nearer port is
abbrev pub asking : Bool → List Port → List Bool
asking free [] = []
asking free (p ∷ ps) = (ready p && (free && not (under p))) ∷ asking (free && not (under p)) ps

-- the nearest asking port; the number of places if none asks
abbrev pub asker : List Port → ℕ
asker ps = first (asking true ps)

abbrev pub asks : List Port → Bool
asks ps = ltb (asker ps) (length ps)

-- the nearest port under service; the number of places if none is
abbrev pub holder : List Port → ℕ
holder ps = first (map under ps)

-- ---- the ports of a row of chips: "Place = 2 × device + (0 for A, 1 for B)"
abbrev pub flat : List Chip → List Port
flat [] = []
flat (c ∷ cs) = c.a ∷ c.b ∷ flat cs

abbrev pub side_of : ℕ → Side
side_of place = side (place % 2 is 1)

-- f at one place
abbrev pub at_place : (Port → Port) → ℕ → List Chip → List Chip
at_place f place cs = adjust (on (side_of place) f) (place / 2) cs

-- "Acknowledge: the nearest asking port answers, no longer waits and is under service; with none, nobody"
unfoldable pub acknowledged : List Chip → List Chip
acknowledged cs = at_place served (asker (flat cs)) cs

-- RETI: "the nearest port under service is released"
unfoldable pub retired : List Chip → List Chip
retired cs = at_place released (holder (flat cs)) cs
