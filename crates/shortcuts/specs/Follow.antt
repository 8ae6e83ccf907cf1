-- The part of settling that a strobe needs: the registers that follow take their lines. Nothing here need be believed: the laws in
-- proofs/ say that on a sound chip it is all of settling.
-- Assumes nothing.
use Rattle.std.specs.Prelude.{Bool, if◌then◌else◌}
use Rattle.port.specs.Fields.{input_at}
use Rattle.port.specs.declared.Port.{Port}
use Rattle.chip.specs.declared.Chip.{Chip}
use Rattle.chip.specs.Chip.{A, B, follows}

-- the input register takes its lines, if it follows them
abbrev pub following : Bool → Port → Port
following f p = input_at (if f then p.lines else p.input) p

abbrev pub followed : Chip → Chip
followed c = record { a = following (follows A c) c.a; b = following (follows B c) c.b }
