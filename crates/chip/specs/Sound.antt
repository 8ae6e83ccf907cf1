-- Document 01, "Sound board", for one chip.
-- Assumes nothing.
use Rattle.std.specs.Prelude.{Bool, ◌&&◌, not}
use Rattle.port.specs.Sound.{rests_of, sound_of}
use Rattle.chip.specs.declared.Chip.{Chip}
use Rattle.chip.specs.Chip.{Side, A, B, is_b, port, off, follows}

abbrev pub sound_port : Side → Chip → Bool
sound_port s c = sound_of (is_b s) (follows s c) (not (off s c)) (port s c)

-- the half of it that settling sees to: match memory and registers that follow
abbrev pub rests : Side → Chip → Bool
rests s c = rests_of (follows s c) (not (off s c)) (port s c)

unfoldable pub sound_chip : Chip → Bool
sound_chip c = sound_port A c && sound_port B c
