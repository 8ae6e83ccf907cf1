-- "Sound board" in plain words: document 01's list, a line each, without Bools.
-- Assumes nothing.
use Rattle.std.specs.Prelude.{◌≡◌, true, false, ◌↔◌, ◌⊎◌, ◌≤◌, ◌<◌, ◌%◌}
use Rattle.bits.specs.Lines.{match_of}
use Rattle.port.specs.declared.Port.{Port}
use Rattle.chip.specs.declared.Chip.{Chip}
use Rattle.board.specs.declared.Board.{Board}
use Rattle.board.specs.Board.{there, sound_board}
use Rattle.meaning.specs.Words.{Each}

-- a sound port; `OnB`: it is a B port; `Follows`: its input register follows; `Watched`: its own match is on
pub record SoundPort (OnB Follows Watched : Type 0) (p : Port) : Type 0 where
  -- "modes 0 to 3, never 2 on B"
  pub mode_known : p.mode < 4
  pub mode_of_b : OnB → p.mode ≡ 2 → ⊥
  -- "vectors even"
  pub vector_even : p.vector % 2 ≡ 0
  -- "live only if asked"
  pub live_asked : p.live ≡ true → p.asked ≡ true
  -- "awaiting is none, select or mask; select only in mode 3; mask never while live"
  pub awaiting_known : p.awaiting < 3
  pub awaiting_select : p.awaiting ≡ 1 → p.mode ≡ 3
  pub awaiting_mask : p.awaiting ≡ 2 → p.live ≡ false
  -- "match memory equal to the match now": "Match, mode 3, nothing awaited"
  pub match_memory : (p.matched ≡ true) ↔ ((p.mode ≡ 3) × (p.awaiting ≡ 0) × (match_of p.select p.mask p.lines p.high p.all ≡ true) × Watched)
  -- "an input register that follows (below) equals its lines"
  pub input_follows : Follows → p.input ≡ p.lines

-- "Mode 1 with Strobe low: the input register follows the lines"; A in mode 2: "B's strobe serves A's input register (follows A's
-- lines while low ..)", "and B's input register stays as it is"
abbrev pub FollowsA : Chip → Type 0
FollowsA c = ((c.a.mode ≡ 1) × (c.a.strobe ≡ false)) ⊎ ((c.a.mode ≡ 2) × (c.b.strobe ≡ false))

abbrev pub FollowsB : Chip → Type 0
FollowsB c = (c.b.mode ≡ 1) × (c.b.strobe ≡ false) × (c.a.mode ≡ 2 → ⊥)

-- of a chip: "B's own handshake and match are then off", with A in mode 2
pub record SoundPorts (c : Chip) : Type 0 where
  pub at_a : SoundPort ⊥ (FollowsA c) (Unit {0}) c.a
  pub at_b : SoundPort (Unit {0}) (FollowsB c) (c.a.mode ≡ 2 → ⊥) c.b

-- of a board: "Size 1 to 4", and every chip that is there
pub record SoundChips (b : Board) : Type 0 where
  pub size_least : 1 ≤ b.size
  pub size_most : b.size ≤ 4
  pub chips : Each SoundPorts (there b)

abbrev pub SoundSays : Type 0
SoundSays = (b : Board) → (sound_board b ≡ true) ↔ SoundChips b
