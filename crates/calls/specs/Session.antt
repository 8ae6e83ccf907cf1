-- A session of C or Rust: calls of the exported functions in any order, each with results that meet its contract, and beside them the
-- observer of demand 3, who sees the events and answers in the buffers of the calls.
-- Assumes nothing.
use Rattle.std.specs.Prelude.{◌≡◌, true, List, ℕ, ◌*◌, ◌≤◌, take, drop, if◌then◌else◌}
use Rattle.bits.specs.Bits.{◌is◌}
use Rattle.board.specs.declared.Board.{Board}
use Rattle.records.specs.Records.{records}
use Rattle.pio.specs.Calls.{FreshCall, StepCall, RunCall, WaveCall, LinesCall}
use Rattle.demands.specs.Observer.{Kept, nothing, see, see_all}
use Rattle.demands.specs.Words.{kept, bytes}
use Rattle.demands.specs.Demands.{Listed, Demand3}

-- a step: without room for the answer (34) nothing was stepped
abbrev pub see_step : ℕ → List ℕ → List ℕ → Kept → Kept
see_step r event answer k = if r is 34 then k else see event (take 4 answer) k

-- a run: the answers stand in the buffer from the record `start` on
abbrev pub see_run : ℕ → List ℕ → List ℕ → ℕ → Kept → Kept
see_run r events answers start k = if r is 0 then see_all (records events) (records (drop (4 * start) answers)) k else k

-- an export shows no answers: the observer is told those of the events
abbrev pub see_wave : ℕ → Board → List ℕ → Kept → Kept
see_wave r b events k = if r is 0 then kept k b (records events) else k

-- `Session n b k`: calls may leave the board b, of n chips (none if the last fresh board was refused), and the observer with k. A fresh
-- board starts the list anew. What a slice of bytes holds are bytes.
pub data Session : ℕ → Board → Kept → Type 0 where
  fresh : {size r : ℕ} {after : Board} → FreshCall size r after → Session (if r is 0 then size else 0) after nothing
  step : {n r : ℕ} {b after : Board} {k : Kept} {event old answer : List ℕ}
      → Session n b k → bytes event ≡ true → StepCall b event old r after answer → Session n after (see_step r event answer k)
  run : {n start r count : ℕ} {b after : Board} {k : Kept} {events old answers : List ℕ}
      → Session n b k → bytes events ≡ true → RunCall b events old start r after answers count → Session n after (see_run r events answers start k)
  wave : {n r count : ℕ} {b after : Board} {k : Kept} {events stamps old text : List ℕ}
      → Session n b k → bytes events ≡ true → WaveCall b events stamps old r after text count → Session n after (see_wave r b events k)
  lines : {n place r : ℕ} {b : Board} {k : Kept} {old shown : List ℕ} → Session n b k → LinesCall b place old r shown → Session n b k

-- Demand 3 after any calls: the list always, and all of it where the last fresh board was not refused.
pub record AfterCalls (n : ℕ) (b : Board) (k : Kept) : Type 0 where
  pub keeps : Listed (n * 2) b k
  pub holds : 1 ≤ n → Demand3 (n * 2) b k

abbrev pub AnyCalls : Type 0
AnyCalls = (n : ℕ) (b : Board) (k : Kept) → Session n b k → AfterCalls n b k
