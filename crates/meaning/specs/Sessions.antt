-- What holds of a board after any session, besides soundness and demand 3.
-- Assumes nothing.
use Rattle.std.specs.Prelude.{◌≡◌, true, false, List, [], ◌∷◌, ℕ, ◌<◌, length}
use Rattle.port.specs.declared.Port.{Port}
use Rattle.chip.specs.declared.Chip.{Chip}
use Rattle.chip.specs.Chip.{two_way}
use Rattle.chain.specs.Chain.{flat}
use Rattle.board.specs.declared.Board.{Board}
use Rattle.board.specs.Board.{there, sound_board, fresh_of}
use Rattle.board.specs.Step.{step_of}
use Rattle.records.specs.Records.{steps_of}
use Rattle.demands.specs.Words.{bytes, all_bytes}
use Rattle.meaning.specs.Words.{Each}

-- ---- no event changes the size or the number of chips
abbrev pub KeepsSize : Type 0
KeepsSize = (b : Board) (e : List ℕ) → ((step_of b e).board.size ≡ b.size) × (length (step_of b e).board.chips ≡ length b.chips)

-- ---- every number of a board: of each port its registers, lines, mode and awaited word, beyond the size too
abbrev pub registers : List Port → List ℕ
registers [] = []
registers (p ∷ ps) = p.mode ∷ p.out ∷ p.input ∷ p.lines ∷ p.vector ∷ p.select ∷ p.mask ∷ p.awaiting ∷ registers ps

abbrev pub numbers : Board → List ℕ
numbers b = b.size ∷ b.decoder.prefix ∷ registers (flat b.chips)

-- every event of bytes keeps them bytes, on a board that is not sound too
abbrev pub KeepsBytes : Type 0
KeepsBytes = (b : Board) (e : List ℕ) → bytes e ≡ true → bytes (numbers b) ≡ true → bytes (numbers (step_of b e).board) ≡ true

-- ---- "A mode word lowers the port's Ready", and in mode 3 nothing raises it: low, unless the port is B and A is in mode 2
abbrev pub ReadyLow : Chip → Type 0
ReadyLow c = (c.a.mode ≡ 3 → c.a.ready ≡ false) × (c.b.mode ≡ 3 → two_way c ≡ false → c.b.ready ≡ false)

-- every event keeps it
abbrev pub KeepsReadyLow : Type 0
KeepsReadyLow = (b : Board) (e : List ℕ) → Each ReadyLow (there b) → Each ReadyLow (there (step_of b e).board)

-- ---- the decoder remembers ED, 1, or nothing, 0
abbrev pub KeepsPrefix : Type 0
KeepsPrefix = (b : Board) (e : List ℕ) → b.decoder.prefix < 2 → (step_of b e).board.decoder.prefix < 2

-- ---- so of a board in any session that began with a fresh one
pub record InSession (b : Board) : Type 0 where
  pub sound : sound_board b ≡ true
  pub every_byte : bytes (numbers b) ≡ true
  pub ready_low : Each ReadyLow (there b)
  pub prefix : b.decoder.prefix < 2

abbrev pub AfterAnySession : Type 0
AfterAnySession = (n : ℕ) (es : List (List ℕ)) → (fresh_of n).code ≡ 0 → all_bytes es ≡ true → InSession (steps_of (fresh_of n).board es)

-- and from any board on of which this holds
abbrev pub KeptBySessions : Type 0
KeptBySessions = (b : Board) (es : List (List ℕ)) → all_bytes es ≡ true → InSession b → InSession (steps_of b es)
