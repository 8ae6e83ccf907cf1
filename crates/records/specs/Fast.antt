-- What the run's short ways ask and give. Nothing here need be believed: the laws in proofs/ say that each is the step.
-- Assumes nothing.
use Rattle.std.specs.Prelude.{Bool, ◌&&◌, not, List, ℕ}
use Rattle.bits.specs.Bits.{◌is◌}
use Rattle.chip.specs.declared.Chip.{Chip}
use Rattle.events.specs.Act.{Acting}
use Rattle.chain.specs.declared.Decoder.{Decoder}
use Rattle.chain.specs.Decode.{reti_of}
use Rattle.board.specs.Step.{kind_of, place_of, value_of, last_of}
use Rattle.records.specs.declared.Told.{Told}

-- the event is a fetch that changes the decoder alone: no port is stirred (`due`), and no RETI ends
unfoldable pub idles_of : Decoder → Bool → List ℕ → Bool
idles_of d due e = (kind_of e is 1) && (place_of e is 0) && (last_of e is 0) && not due && not (reti_of d (value_of e))

-- what became of a chip, and what is told of it
abbrev pub acting_as : Chip → Told → Acting
acting_as c t = record { chip = c; code = t.code; value = t.value }
