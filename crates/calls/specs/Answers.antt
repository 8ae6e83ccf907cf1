-- Demand 1 of each exported function: every call has an answer, "bad ones are refused by number, a refused event changes nothing, nothing
-- is left to the caller to check first". Whatever meets a function's contract (pio/specs/Calls.antt) is of this kind. `r`: the code.
-- Assumes nothing.
use Rattle.std.specs.Prelude.{◌≡◌, true, not, List, [], ◌∷◌, ℕ, ◌*◌, ◌≤◌, ltb, length, if◌then◌else◌}
use Rattle.bits.specs.Bits.{◌is◌}
use Rattle.buffers.specs.Splice.{splice}
use Rattle.port.specs.Rules.{levels_now, driven_of}
use Rattle.board.specs.declared.Board.{Board}
use Rattle.board.specs.Board.{port_at, size_ok, sound_board, blank_board, request_of}
use Rattle.board.specs.Step.{place_of, value_of, Line, line, lines}
use Rattle.records.specs.Records.{records, steps_of, answers_of}
use Rattle.run.specs.Run.{run_lines}
use Rattle.recording.specs.Wave.{wave_text, wave_lines}
use Rattle.pio.specs.Calls.{FreshCall, StepCall, RunCall, WaveCall, LinesCall}
use Rattle.demands.specs.Words.{step_codes, run_codes, listed, decides}

-- ---- pio_fresh: "33 for a size outside 1 to 4, with a board of size 0 that otherwise holds what a fresh board holds"
pub record FreshAnswered (size r : ℕ) (after : Board) : Type 0 where
  pub known : listed r (0 ∷ 33 ∷ []) ≡ true
  pub refused : (r is 33) ≡ not (size_ok size)
  pub made : after ≡ blank_board (if r is 0 then size else 0)

abbrev pub EveryFresh : Type 0
EveryFresh = (size r : ℕ) (after : Board) → FreshCall size r after → FreshAnswered size r after

-- ---- pio_step: 34 for an answer buffer of less than four bytes, 32 for other than four event bytes, then document 01's table
abbrev pub step_lines : Board → List ℕ → ℕ → List Line
step_lines b event room = line (ltb room 4) 34 ∷ line (not (length event is 4)) 32 ∷ lines b event

-- the answer's other three bytes where an event is refused: with 32 all 0
abbrev pub refusal_bytes : Board → List ℕ → ℕ → List ℕ
refusal_bytes b event r =
    if r is 32 then 32 ∷ 0 ∷ 0 ∷ 0 ∷ [] else
    r ∷ place_of event ∷ value_of event ∷ (if sound_board b then request_of b else 0) ∷ []

pub record StepAnswered (b : Board) (event old : List ℕ) (r : ℕ) (after : Board) (answer : List ℕ) : Type 0 where
  pub known : listed r (34 ∷ 32 ∷ step_codes) ≡ true
  pub ordered : (code : ℕ) → 16 ≤ code → (r is code) ≡ decides code (step_lines b event (length old))
  pub unchanged : 16 ≤ r → after ≡ b
  pub told : 16 ≤ r → answer ≡ (if r is 34 then old else splice old 0 (refusal_bytes b event r))
  pub inside : length answer ≡ length old

abbrev pub EveryStep : Type 0
EveryStep = (b : Board) (event old : List ℕ) (r : ℕ) (after : Board) (answer : List ℕ) → StepCall b event old r after answer → StepAnswered b event old r after answer

-- ---- pio_run: "35, 32, 34. Each leaves board and buffer untouched and reports 0 records"
pub record RunAnswered (b : Board) (events old : List ℕ) (start : ℕ) (r : ℕ) (after : Board) (answers : List ℕ) (count : ℕ) : Type 0 where
  pub known : listed r run_codes ≡ true
  pub ordered : (code : ℕ) → 1 ≤ code → (r is code) ≡ decides code (run_lines (sound_board b) (length events) (length old) start)
  pub unchanged : 1 ≤ r → (after ≡ b) × (answers ≡ old) × (count ≡ 0)
  pub done : r ≡ 0 → (after ≡ steps_of b (records events)) × (answers ≡ splice old (4 * start) (answers_of b (records events))) × (count ≡ length (records events))
  pub inside : length answers ≡ length old

abbrev pub EveryRunCall : Type 0
EveryRunCall =
    (b : Board) (events old : List ℕ) (start r : ℕ) (after : Board) (answers : List ℕ) (count : ℕ)
    → RunCall b events old start r after answers count → RunAnswered b events old start r after answers count

-- ---- pio_wave: "after 35 and 32, 36, 41, then 40; nothing is written, the length is 0 and the board is unchanged"
abbrev pub wave_codes : List ℕ
wave_codes = 0 ∷ 35 ∷ 32 ∷ 36 ∷ 41 ∷ 40 ∷ []

pub record WaveAnswered (b : Board) (events stamps old : List ℕ) (r : ℕ) (after : Board) (text : List ℕ) (count : ℕ) : Type 0 where
  pub known : listed r wave_codes ≡ true
  pub ordered : (code : ℕ) → 1 ≤ code
      → (r is code) ≡ decides code (wave_lines (sound_board b) (length events) (length stamps) (length (wave_text b events stamps)) (length old))
  pub unchanged : 1 ≤ r → (after ≡ b) × (text ≡ old) × (count ≡ 0)
  pub done : r ≡ 0 → (after ≡ steps_of b (records events)) × (text ≡ splice old 0 (wave_text b events stamps)) × (count ≡ length (wave_text b events stamps))
  pub inside : length text ≡ length old

abbrev pub EveryWave : Type 0
EveryWave =
    (b : Board) (events stamps old : List ℕ) (r : ℕ) (after : Board) (text : List ℕ) (count : ℕ)
    → WaveCall b events stamps old r after text count → WaveAnswered b events stamps old r after text count

-- ---- pio_lines: 34 for a buffer of less than two bytes; "refused with 35, then 17, both bytes 0"
abbrev pub lines_lines : Board → ℕ → ℕ → List Line
lines_lines b place room = line (ltb room 2) 34 ∷ line (not (sound_board b)) 35 ∷ line (not (ltb place (b.size * 2))) 17 ∷ []

pub record LinesAnswered (b : Board) (place : ℕ) (old : List ℕ) (r : ℕ) (lines : List ℕ) : Type 0 where
  pub known : listed r (0 ∷ 34 ∷ 35 ∷ 17 ∷ []) ≡ true
  pub ordered : (code : ℕ) → 1 ≤ code → (r is code) ≡ decides code (lines_lines b place (length old))
  pub unchanged : 1 ≤ r → lines ≡ (if r is 34 then old else splice old 0 (0 ∷ 0 ∷ []))
  pub done : r ≡ 0 → lines ≡ splice old 0 (levels_now (port_at b place) ∷ driven_of (port_at b place) ∷ [])
  pub inside : length lines ≡ length old

abbrev pub EveryLines : Type 0
EveryLines = (b : Board) (place : ℕ) (old : List ℕ) (r : ℕ) (lines : List ℕ) → LinesCall b place old r lines → LinesAnswered b place old r lines
