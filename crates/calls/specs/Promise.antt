-- The whole promise, one name: what the owner asks of the functions that C and Rust call. `kept_promise` ensures it.
-- Assumes nothing.
use Rattle.std.specs.Prelude.{◌≡◌, List, ℕ}
use Rattle.board.specs.declared.Board.{Board}
use Rattle.pio.specs.Calls.{FreshCall, StepCall, RunCall, WaveCall, LinesCall}
use Rattle.sessions.specs.Rows.{SessionsHold}
use Rattle.sessions.specs.Sessions.{rows}
use Rattle.demands.specs.Asks.{WhoIsAsking}
use Rattle.meaning.specs.Sound.{SoundSays}
use Rattle.meaning.specs.Match.{OrMatch, AndMatch}
use Rattle.meaning.specs.Mode2.{Mode2}
use Rattle.meaning.specs.Beyond.{NotRead, NotChanged}
use Rattle.meaning.specs.Sessions.{AfterAnySession}
use Rattle.viewer.specs.Recordings.{ExportReads, OneText}
use Rattle.calls.specs.Answers.{EveryFresh, EveryStep, EveryRunCall, EveryWave, EveryLines}
use Rattle.calls.specs.Session.{AnyCalls}

-- ---- "two results that meet a contract are equal": the code, the board and every lent byte, for each exported function
pub record OnlyOne : Type 0 where
  pub fresh : (size r s : ℕ) (b c : Board) → FreshCall size r b → FreshCall size s c → (r ≡ s) × (b ≡ c)
  pub step : (b : Board) (event old : List ℕ) (r s : ℕ) (c d : Board) (x y : List ℕ)
      → StepCall b event old r c x → StepCall b event old s d y → (r ≡ s) × (c ≡ d) × (x ≡ y)
  pub run : (b : Board) (events old : List ℕ) (start r s : ℕ) (c d : Board) (x y : List ℕ) (m n : ℕ)
      → RunCall b events old start r c x m → RunCall b events old start s d y n → (r ≡ s) × (c ≡ d) × (x ≡ y) × (m ≡ n)
  pub wave : (b : Board) (events stamps old : List ℕ) (r s : ℕ) (c d : Board) (x y : List ℕ) (m n : ℕ)
      → WaveCall b events stamps old r c x m → WaveCall b events stamps old s d y n → (r ≡ s) × (c ≡ d) × (x ≡ y) × (m ≡ n)
  pub lines : (b : Board) (place : ℕ) (old : List ℕ) (r s : ℕ) (x y : List ℕ)
      → LinesCall b place old r x → LinesCall b place old s y → (r ≡ s) × (x ≡ y)

-- ---- the three demands, and what the asks add
pub record Promise : Type 0 where
  -- 1. "Every event and every board has an answer. Bad ones are refused by number; a refused event changes nothing."
  pub fresh : EveryFresh
  pub step : EveryStep
  pub run : EveryRunCall
  pub wave : EveryWave
  pub lines : EveryLines
  -- 2. "After each event the registers, driven lines, Ready lines, request and vector are those of the Z80 PIO papers": the sessions come
  -- out as the papers say, and what the definitions mean is what document 01 says
  pub only : OnlyOne
  pub sessions : SessionsHold rows
  pub sound : SoundSays
  pub match : OrMatch × AndMatch
  pub mode2 : Mode2
  pub beyond : NotRead × NotChanged
  pub always : AfterAnySession
  -- 3. "The ports under service are always exactly that list. A waiting port never stops a RETI."
  pub calls : AnyCalls
  -- Ask 1: "a recording for the wave viewer". Ask 2: "make the request answer name the nearest asking place"
  pub text : ExportReads × OneText
  pub asking : WhoIsAsking
