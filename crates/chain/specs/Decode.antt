-- Document 01, "Chain and RETI": the opcode decoder. "ED opens, the next fetched byte closes, and if that byte is 4D the nearest
-- port under service is released. No other byte opens it. ED after ED closes."
-- Assumes nothing.
use Rattle.std.specs.Prelude.{ℕ, Bool, ◌&&◌, if◌then◌else◌}
use Rattle.bits.specs.Bits.{◌is◌}
use Rattle.chain.specs.declared.Decoder.{Decoder}

-- nothing remembered
abbrev pub shut : Decoder
shut = record { prefix = 0 }

-- after one more fetched byte: 1 remembers ED
unfoldable pub next_of : Decoder → ℕ → Decoder
next_of d byte = record { prefix = if (d.prefix is 0) && (byte is 0xED) then 1 else 0 }

-- the byte ends a RETI
unfoldable pub reti_of : Decoder → ℕ → Bool
reti_of d byte = (d.prefix is 1) && (byte is 0x4D)
