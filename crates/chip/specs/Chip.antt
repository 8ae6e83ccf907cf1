-- One chip: document 01's "Data, handshake, bits" for the two ports of a device. The rules of one port are in port/specs; here is
-- what the ports have to do with each other, which is mode 2 of A, and what an event of the whole board does to a chip. What an event
-- at one port does is in events/specs.
-- Assumes nothing.
use Rattle.std.specs.Prelude.{Bool, true, false, ◌&&◌, ◌||◌, not}
use Rattle.bits.specs.Bits.{◌is◌}
use Rattle.port.specs.Rules.{settled, woken, served, released, cleared, fresh_port}
use Rattle.port.specs.declared.Port.{Port}
use Rattle.chip.specs.declared.Chip.{Chip}

pub data Side : Type 0 where
  A : Side
  B : Side

-- the side that the flag "it is B" names, and back
abbrev pub side : Bool → Side
side false = A
side true = B

abbrev pub is_b : Side → Bool
is_b A = false
is_b B = true

abbrev pub port : Side → Chip → Port
port A c = c.a
port B c = c.b

-- f at one side
abbrev pub on : Side → (Port → Port) → Chip → Chip
on A f c = record { a = f c.a; b = c.b }
on B f c = record { a = c.a; b = f c.b }

-- a port at one side
abbrev pub put : Side → Port → Chip → Chip
put s q c = on s (λ p. q) c

-- ---- mode 2 of A
abbrev pub two_way : Chip → Bool
two_way c = c.a.mode is 2

-- "B's own handshake and match are then off"
abbrev pub off : Side → Chip → Bool
off A c = false
off B c = two_way c

-- "Mode 1 with Strobe low: the input register follows the lines". A in mode 2: "B's strobe serves A's input register (follows A's
-- lines while low)", and "B's input register stays as it is whatever B's mode"
abbrev pub follows : Side → Chip → Bool
follows A c = ((c.a.mode is 1) && not c.a.strobe) || (two_way c && not c.b.strobe)
follows B c = (c.b.mode is 1) && not c.b.strobe && not (two_way c)

-- ---- after each accepted event, at both ports
abbrev pub settle : Chip → Chip
settle c = record {
  a = settled (follows A c) (not (off A c)) c.a;
  b = settled (follows B c) (not (off B c)) c.b;
}

-- ---- what a whole-board event does to one chip, before the settling
abbrev pub reset : Chip → Chip
reset c = record { a = cleared c.a; b = cleared c.b }

abbrev pub fetch : Chip → Chip
fetch c = record { a = woken c.a; b = woken c.b }

abbrev pub serve : Side → Chip → Chip
serve s c = on s served c

abbrev pub release : Side → Chip → Chip
release s c = on s released c

abbrev pub chip_fresh : Chip
chip_fresh = record { a = fresh_port; b = fresh_port }
