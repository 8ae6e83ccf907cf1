-- The eight lines of a port, line by line. Document 01, "Data, handshake, bits": match, read in mode 3, driven lines.
-- Assumes nothing.
use Rattle.std.specs.Prelude.{ℕ, ◌-◌, Bool, ◌&&◌, ◌||◌, not, if◌then◌else◌}
use Rattle.std.specs.Bool.{beq}
use Rattle.bits.specs.Bits.{bit, some, every, number}

-- line k counts in the match: it is an input bit (select 1) with mask bit 0
abbrev pub counts : ℕ → ℕ → ℕ → Bool
counts select mask k = bit k select && not (bit k mask)

-- line k is at the active level
abbrev pub active : ℕ → Bool → ℕ → Bool
active lines high k = beq (bit k lines) high

-- "of input bits with mask bit 0, some (OR) or all (AND) at the active level. No such bit: no match"
unfoldable pub match_of : ℕ → ℕ → ℕ → Bool → Bool → Bool
match_of select mask lines high all =
    if all
    then some 8 (counts select mask) && every 8 (λ k. not (counts select mask k) || active lines high k)
    else some 8 (λ k. counts select mask k && active lines high k)

-- the lines, turned over where Low is the active level: a 1 for each active line
abbrev pub active_of : ℕ → Bool → ℕ
active_of lines high = if high then lines else 255 - lines

-- read, "mode 3 lines on input bits, output register on output bits"
unfoldable pub mixed_of : ℕ → ℕ → ℕ → ℕ
mixed_of select lines out = number 8 (λ k. if bit k select then bit k lines else bit k out)

-- driven lines: the output register where driven; "an undriven bit shows 0"
unfoldable pub levels_of : ℕ → ℕ → ℕ
levels_of out driven = number 8 (λ k. bit k out && bit k driven)
