-- Mode 2 of A, sentence by sentence: what document 01, "Control words" and "Data, handshake, bits", says of it, as equations of the
-- whole chip. `step` is an event at one port with the settling after it (events/specs/Act).
-- Assumes nothing.
use Rattle.std.specs.Prelude.{◌≡◌, true, false, not, List, [], ◌∷◌, ℕ, ◌/◌, ◌<◌, if◌then◌else◌}
use Rattle.port.specs.Fields.{out_at, input_at, lines_at, strobe_at, ready_at, waiting_at, matched_at}
use Rattle.port.specs.Rules.{shown_of, driven_of, levels_now}
use Rattle.port.specs.declared.Port.{Port}
use Rattle.chip.specs.declared.Chip.{Chip}
use Rattle.chip.specs.Chip.{Side, A, B, on, two_way, settle}
use Rattle.chip.specs.Sound.{sound_chip}
use Rattle.events.specs.declared.Event.{Event}
use Rattle.events.specs.declared.Event.TheVariants.{Control, Write, Read, Strobe, Outside}
use Rattle.events.specs.Events.{changed}
use Rattle.events.specs.Act.{step}
use Rattle.chain.specs.Places.{adjust}
use Rattle.chain.specs.Chain.{ready, under, side_of}
use Rattle.board.specs.declared.Board.{Board}
use Rattle.board.specs.Board.{there, sound_board}
use Rattle.board.specs.declared.Doing.TheVariants.{At}
use Rattle.board.specs.Step.{taken, answer, step_of}
use Rattle.demands.specs.Words.{acknowledge}

-- the rise of a strobe that ends a handshake: Ready falls and the port waits
abbrev pub ended : Port → Port
ended p = strobe_at true (ready_at false (waiting_at true p))

-- ---- a sound chip with A in mode 2
pub record InMode2 (c : Chip) : Type 0 where
  -- "Write: output register set; Ready rises in modes 0 and 2"
  pub a_write : (v : ℕ) → step A (Write v) c ≡ on A (λ p. out_at v (ready_at true p)) c
  -- "Read: .. modes 1 and 2 the input register", "in mode 2 B's Ready rises"
  pub a_shows : shown_of c.a ≡ c.a.input
  pub a_read : step A Read c ≡ on B (ready_at true) c
  -- "A's strobe ends output (A's Ready falls, A waits)", "All of A's changes come at the rise of its strobe": the fall moves the level
  -- alone, before the settling too, and "A repeated level is accepted and is no edge"
  pub a_rise : c.a.strobe ≡ false → step A (Strobe true) c ≡ on A ended c
  pub a_fall : step A (Strobe false) c ≡ on A (strobe_at false) c
  pub a_fall_at_once : changed A (Strobe false) c ≡ on A (strobe_at false) c
  pub a_repeats : step A (Strobe c.a.strobe) c ≡ c
  -- "B's strobe serves A's input register (follows A's lines while low; at the rise B's Ready falls and B waits ..)", and A does not
  pub b_fall : step B (Strobe false) c ≡ record { a = input_at c.a.lines c.a; b = strobe_at false c.b }
  pub a_lines : (v : ℕ) → step A (Outside v) c ≡ on A (λ p. lines_at v (input_at (if c.b.strobe then p.input else v) p)) c
  pub b_rise : c.b.strobe ≡ false → step B (Strobe true) c ≡ on B ended c
  pub b_repeats : step B (Strobe c.b.strobe) c ≡ c
  -- "B's own handshake and match are then off, and B's input register stays as it is whatever B's mode"
  pub b_lines : (v : ℕ) → step B (Outside v) c ≡ on B (lines_at v) c
  pub b_input : (s : Side) (e : Event) → two_way (step s e c) ≡ true → (step s e c).b.input ≡ c.b.input
  -- "reads and writes of B move data only"
  pub b_write : (v : ℕ) → step B (Write v) c ≡ on B (out_at v) c
  pub b_read : step B Read c ≡ c
  -- "A mode word lowers the port's Ready, except on B while A of that device is in mode 2"; no other word lowers it
  pub b_word : (v : ℕ) → (step B (Control v) c).b.ready ≡ c.b.ready
  -- "Driven lines: .. 2 all while A's Strobe is low, else none", "An undriven bit shows 0"
  pub a_drives : driven_of c.a ≡ (if c.a.strobe then 0 else 255)
  pub a_levels : c.a.out < 256 → levels_now c.a ≡ (if c.a.strobe then 0 else c.a.out)

abbrev pub Mode2 : Type 0
Mode2 = (c : Chip) → sound_chip c ≡ true → two_way c ≡ true → InMode2 c

-- ---- the settling of any chip with A in mode 2, sound or not, and so after every event: A's input register follows A's lines while
-- B's strobe is low, B's stays as it is, and nobody begins to wait, whatever B's mode and lines
abbrev pub Mode2Settles : Type 0
Mode2Settles = (c : Chip) → two_way c ≡ true
    → settle c ≡ record { a = input_at (if c.b.strobe then c.a.input else c.a.lines) (matched_at false c.a); b = matched_at false c.b }

-- ---- any chip: "A entering or leaving mode 2 also lowers B's Ready"
abbrev pub Recouples : Type 0
Recouples = (c : Chip) (v : ℕ) → two_way (step A (Control v) c) ≡ not (two_way c) → (step A (Control v) c).b.ready ≡ false

-- ---- the board: an accepted event at a place is `step` at its chip, and changes no other chip. So what is said here of a chip holds
-- at every place
abbrev pub OneChip : Type 0
OneChip = (b : Board) (place : ℕ) (e : Event) → sound_board b ≡ true
    → there (taken b (At place e)) ≡ adjust (step (side_of place) e) (place / 2) (there b)

-- ".. and B waits, with B's vector": on a board whose nearest chip has A in mode 2 and B live, where A does not ask and neither is under
-- service: an acknowledge after the rise of B's strobe, (6,1,1,0), is answered by B, place 1, with B's vector
abbrev pub BAnswers : Type 0
BAnswers =
    (b : Board) (c : Chip) (cs : List Chip) → sound_board b ≡ true → there b ≡ c ∷ cs → two_way c ≡ true
    → c.b.strobe ≡ false → c.b.live ≡ true → ready c.a ≡ false → under c.a ≡ false → under c.b ≡ false
    → (step_of (step_of b (6 ∷ 1 ∷ 1 ∷ 0 ∷ [])).board acknowledge).answer ≡ answer 2 1 c.b.vector 0
