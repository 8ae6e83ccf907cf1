-- The match in plain words: document 01, "Data, handshake, bits".
-- Assumes nothing.
use Rattle.std.specs.Prelude.{◌≡◌, Bool, true, false, ◌↔◌, ℕ, ◌<◌}
use Rattle.bits.specs.Bits.{bit}
use Rattle.bits.specs.Lines.{match_of}

-- line k is one of the "input bits with mask bit 0"
abbrev pub Counts : ℕ → ℕ → ℕ → Type 0
Counts select mask k = (bit k select ≡ true) × (bit k mask ≡ false)

-- "some (OR) .. at the active level": there is a line that counts and is at that level
abbrev pub OrMatch : Type 0
OrMatch =
    (select mask lines : ℕ) (high : Bool)
    → (match_of select mask lines high false ≡ true) ↔ ((k : ℕ) × (k < 8) × (Counts select mask k × (bit k lines ≡ high)))

-- "or all (AND) at the active level. No such bit: no match": some line counts, and each line that counts is at that level
abbrev pub AndMatch : Type 0
AndMatch =
    (select mask lines : ℕ) (high : Bool)
    → (match_of select mask lines high true ≡ true)
    ↔ (((k : ℕ) × (k < 8) × Counts select mask k) × ((k : ℕ) → k < 8 → Counts select mask k → bit k lines ≡ high))
