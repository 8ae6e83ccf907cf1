-- What the owner asks: the three demands, of the product's own step and run, in quotes as the owner or document 01 says them.
-- Words.antt and Observer.antt have the words and the observer. Each statement is part of what `kept_promises` ensures.
-- Assumes nothing.
use Rattle.std.specs.Prelude.{◌≡◌, true, false, ℕ, ◌*◌, ◌≤◌, length, set, if◌then◌else◌}
use mathlib.Core.List.{List, [], ◌∷◌, drop_last}
use Rattle.bits.specs.Bits.{◌is◌}
use Rattle.buffers.specs.Splice.{splice}
use Rattle.board.specs.declared.Board.{Board}
use Rattle.board.specs.Board.{ports, port_at, sound_board, fresh_of, request_of}
use Rattle.board.specs.Step.{bytes_of, place_of, value_of, lines, answer, step_of}
use Rattle.records.specs.Records.{records, steps_of, answers_of}
use Rattle.run.specs.Run.{run_lines, ran_of, buffer_of}
use Rattle.demands.specs.Observer.{Kept, nothing, decoded}
use Rattle.demands.specs.Words.{step_codes, run_codes, listed, decides, acknowledge, fetch, under_service, Nearing, nearest, turn, answering, remembered, found, kept, all_bytes}

-- ---- DEMAND 1. Every event and every board has an answer, bad ones are refused by number, and a refused event changes nothing.
-- A step of four bytes: the code is one of the table's; "each is given exactly when its line is true and no earlier one is"; "every
-- refusal gives the event's place and value and leaves the board exactly as before".
pub record Answered (b : Board) (e : List ℕ) : Type 0 where
  pub known : listed (step_of b e).answer.code step_codes ≡ true
  pub ordered : (code : ℕ) → 16 ≤ code → ((step_of b e).answer.code is code) ≡ decides code (lines b e)
  pub unchanged : 16 ≤ (step_of b e).answer.code
      → step_of b e ≡ record { board = b; answer = answer (step_of b e).answer.code (place_of e) (value_of e) (if sound_board b then request_of b else 0) }

abbrev pub FourBytes : Type 0
FourBytes = (b : Board) (e : List ℕ) → length e ≡ 4 → Answered b e

-- "The one exception: other than exactly four event bytes."
abbrev pub NotFourBytes : Type 0
NotFourBytes = (b : Board) (e : List ℕ) → (length e is 4) ≡ false → step_of b e ≡ record { board = b; answer = answer 32 0 0 0 }

-- A run over the event bytes `es`, into the answer buffer `old` from the record `start` on: a refused run "leaves board and buffer
-- untouched and reports 0 records"; otherwise "all records are stepped", and it "reports 0 with their number".
pub record AnsweredRun (b : Board) (es old : List ℕ) (start : ℕ) : Type 0 where
  pub known : listed (ran_of b es old start).code run_codes ≡ true
  pub ordered : (code : ℕ) → 1 ≤ code → ((ran_of b es old start).code is code) ≡ decides code (run_lines (sound_board b) (length es) (length old) start)
  pub unchanged : 1 ≤ (ran_of b es old start).code
      → (ran_of b es old start ≡ record { code = (ran_of b es old start).code; records = 0; board = b }) × (buffer_of b es old start ≡ old)
  pub done : (ran_of b es old start).code ≡ 0
      → (ran_of b es old start ≡ record { code = 0; records = length (records es); board = steps_of b (records es) })
      × (buffer_of b es old start ≡ splice old (4 * start) (answers_of b (records es))) × (length (buffer_of b es old start) ≡ length old)

abbrev pub EveryRun : Type 0
EveryRun = (b : Board) (es old : List ℕ) (start : ℕ) → AnsweredRun b es old start

-- ---- DEMAND 2. After each event registers, lines, Ready, request and vector are those of the papers: each contract is an equation with
-- a definition that follows them, the crates `sessions` and `meaning` say what those definitions come to, and `calls` that only one
-- result meets the contract of an exported function.

-- ---- DEMAND 3. An observer keeps a list: an answered acknowledge adds its port at the end, a decoded RETI removes the last, a reset
-- empties it, and what is refused counts for nothing. Of a board of n ports: "the ports under service are always exactly that list,
-- each nearer the CPU than the one before, never longer than the number of ports". `memory`: the board remembers of the fetched bytes
-- what the observer makes of them.
pub record Listed (n : ℕ) (b : Board) (k : Kept) : Type 0 where
  pub exactly : under_service b ≡ k.list
  pub order : Nearing n k.list
  pub short : length k.list ≤ n
  pub memory : b.decoder.prefix ≡ remembered k.history

-- "An acknowledge goes to the nearest enabled waiting port if that stands nearer than all in the list, otherwise to nobody": `answers`
-- has its bytes, `serves` the ports after it, where the one that answers "no longer waits and is under service" and no other changes.
-- "A waiting port never stops a RETI": `releases`, whatever waits, the last of the list and no other.
pub record Demand3 (n : ℕ) (b : Board) (k : Kept) : Type 0 where
  pub sound : sound_board b ≡ true
  pub keeps : Listed n b k
  pub answers : bytes_of (step_of b acknowledge).answer
      ≡ (if turn n b k.list then 2 ∷ nearest b ∷ (port_at b (nearest b)).vector ∷ 0 ∷ [] else 3 ∷ 0 ∷ 255 ∷ 0 ∷ [])
  pub serves : ports (step_of b acknowledge).board
      ≡ (if turn n b k.list then set (ports b) (nearest b) (answering (port_at b (nearest b))) else ports b)
  pub releases : (byte : ℕ) → decoded k.history byte ≡ true → under_service (step_of b (fetch byte)).board ≡ drop_last k.list

-- From a fresh board and any sequence of events, refused ones among them.
abbrev pub FromFresh : Type 0
FromFresh = (n : ℕ) (es : List (List ℕ)) → (fresh_of n).code ≡ 0 → all_bytes es ≡ true → Demand3 (n * 2) (steps_of (fresh_of n).board es) (kept nothing (fresh_of n).board es)

-- From any sound board on, whose decoder remembers some history: the list is started by the ports then under service.
abbrev pub FromSound : Type 0
FromSound = (b : Board) (history : List ℕ) (es : List (List ℕ)) → sound_board b ≡ true → b.decoder.prefix ≡ remembered history → all_bytes es ≡ true
    → Demand3 (length (ports b)) (steps_of b es) (kept (found history b) b es)

-- The list by itself, from any such board, sound or not and with any numbers for events: on a board that is not sound every event is refused.
abbrev pub FromAny : Type 0
FromAny = (b : Board) (history : List ℕ) (es : List (List ℕ)) → b.decoder.prefix ≡ remembered history
    → Listed (length (ports b)) (steps_of b es) (kept (found history b) b es)

-- A decoder that holds neither 0 nor 1 remembers no history of fetched bytes. The next fetch shuts it and releases nobody.
abbrev pub NoHistory : Type 0
NoHistory = (b : Board) (byte : ℕ) → sound_board b ≡ true → 2 ≤ b.decoder.prefix
    → (under_service (step_of b (fetch byte)).board ≡ under_service b) × ((step_of b (fetch byte)).board.decoder.prefix ≡ 0)
