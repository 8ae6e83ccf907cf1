-- The port at a place; and that nothing happens where nobody is under service, nobody asks, or no port is stirred.
-- Assumes nothing.
use mathlib.Core.Path.{◌≡◌, refl, ap}
use mathlib.Core.Bool.{Bool, true, false, ◌&&◌, ◌||◌, not, true≢false}
use mathlib.Core.List.{List, [], ◌∷◌, map}
use Prim.Native.Nat.{ℕ, zero, suc, ◌/◌, ◌%◌, ◌≤◌, ◌<◌}
use native.Mathlib.Nat.{not-suc-le-zero}
use native.Mathlib.Omega.{arith}
use lib.Dec.{ltb}
use lib.ListN.{length, length-map, get_or}
use borrow.Author.Tests.{ltb-false}
use Rattle.bits.specs.Bits.{◌is◌}
use Rattle.port.specs.Fields.{live_at}
use Rattle.port.specs.Rules.{woken, served, released}
use Rattle.port.specs.declared.Port.{Port}
use Rattle.chip.specs.declared.Chip.{Chip}
use Rattle.chip.specs.Chip.{Side, A, B, port, on}
use Rattle.chip.specs.Chip as chip
use Rattle.chain.specs.Places.{first, adjust}
use Rattle.chain.specs.Chain.{under, asking, asker, asks, holder, flat, side_of, acknowledged, retired}
use Rattle.chain.proofs.Places.{adjust_beyond}
use Rattle.chain.proofs.Flat.{flat_length}
use Rattle.board.specs.Halves.{stirs_port, stirs, stirs_some, blank}

-- ---- the port at a place
pub port_at_lem : (cs : List Chip) (k : ℕ) (d : Port) → k < length (flat cs) → get_or (flat cs) k d ≡ port (side_of k) (get_or cs (k / 2) blank)
port_at_lem [] k d h = absurd (not-suc-le-zero h)
port_at_lem (c ∷ cs) zero d h = refl
port_at_lem (c ∷ cs) (suc zero) d h = refl
port_at_lem (c ∷ cs) (suc (suc k)) d h =
    let half : suc (suc k) / 2 ≡ suc (k / 2) = omega arith in
    let odd : suc (suc k) % 2 ≡ k % 2 = omega arith in
    rw (half, odd) (port_at_lem cs k d (omega (arith, h)))

-- ---- nobody under service, nobody asking: nothing is released, nobody answers
pub first_le : (s : List Bool) → first s ≤ length s
first_le [] = omega arith
first_le (true ∷ s) = omega arith
first_le (false ∷ s) = omega (arith, first_le s)

pub asking_length : (free : Bool) (ps : List Port) → length (asking free ps) ≡ length ps
asking_length free [] = refl
asking_length free (p ∷ ps) = rw (asking_length (free && not (under p)) ps)

pub beyond : (f : Port → Port) (k : ℕ) (cs : List Chip) → k ≤ length (flat cs) → ltb k (length (flat cs)) ≡ false → adjust (on (side_of k) f) (k / 2) cs ≡ cs
beyond f k cs h e =
    let i : k / 2 ≡ length cs = omega (arith, h, ltb-false k (length (flat cs)) e, flat_length cs) in
    rw i (adjust_beyond (on (side_of k) f) cs)

pub none_released : (cs : List Chip) → ltb (holder (flat cs)) (length (flat cs)) ≡ false → retired cs ≡ cs
unfolding retired
none_released cs e = beyond released (holder (flat cs)) cs (omega (arith, first_le (map under (flat cs)), length-map (flat cs) under)) e

pub none_answers : (cs : List Chip) → asks (flat cs) ≡ false → acknowledged cs ≡ cs
unfolding acknowledged
none_answers cs e = beyond served (asker (flat cs)) cs (omega (arith, first_le (asking true (flat cs)), asking_length true (flat cs))) e

-- a fetch leaves the row as it is
abbrev pub Still : List Chip → Type 0
Still cs = map chip.fetch cs ≡ cs

pub fetch_free : (s : Side) (i : ℕ) (cs : List Chip) → map chip.fetch (adjust (on s released) i cs) ≡ adjust (on s released) i (map chip.fetch cs)
fetch_free s i [] = refl
fetch_free A zero (c ∷ cs) = refl
fetch_free B zero (c ∷ cs) = refl
fetch_free s (suc i) (c ∷ cs) = rw (fetch_free s i cs)

-- ---- where no port is stirred a fetch changes nothing
quiet_bit : (asked masked live : Bool) → (asked && not masked && not live) ≡ false → (live || (asked && not masked)) ≡ live
quiet_bit asked masked true e = refl
quiet_bit true true false e = refl
quiet_bit true false false e = e
quiet_bit false masked false e = refl

woken_same : (p : Port) → stirs_port p ≡ false → woken p ≡ p
woken_same p e = ap (λ (l : Bool). live_at l p) (quiet_bit p.asked (p.awaiting is 2) p.live e)

pub neither : (x y : Bool) → (x || y) ≡ false → (x ≡ false) × (y ≡ false)
neither true y e = absurd (true≢false e)
neither false y e = (refl, e)

chip_same : (c : Chip) (x y : Port) → x ≡ c.a → y ≡ c.b → ◌≡◌ {A = Chip} (record { a = x; b = y }) c
chip_same c x y e f = rw (e, f)

pub quiet_chip : (c : Chip) → stirs c ≡ false → chip.fetch c ≡ c
unfolding stirs
quiet_chip c e =
    let n = neither (stirs_port c.a) (stirs_port c.b) e in
    chip_same c (woken c.a) (woken c.b) (woken_same c.a n.0) (woken_same c.b n.1)

pub quiet : (cs : List Chip) → stirs_some cs ≡ false → Still cs
quiet [] e = refl
quiet (c ∷ cs) e = let n = neither (stirs c) (stirs_some cs) e in rw (quiet_chip c n.0, quiet cs n.1)
