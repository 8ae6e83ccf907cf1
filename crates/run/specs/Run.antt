-- Document 01, "Records": a run takes a board, event bytes, an answer buffer and a starting record number in that buffer.
-- Assumes nothing.
use Rattle.std.specs.Prelude.{Bool, not, List, [], ◌∷◌, ℕ, ◌+◌, ◌*◌, ◌/◌, ◌%◌, ltb, length, Result, Ok, Err, if◌then◌else◌}
use Rattle.bits.specs.Bits.{◌is◌}
use Rattle.buffers.specs.Splice.{splice}
use Rattle.refusals.specs.declared.Refusal.{Refusal}
use Rattle.refusals.specs.declared.Refusal.TheVariants.{Length, Room}
use Rattle.refusals.specs.Numbers.{number_of}
use Rattle.board.specs.declared.Board.{Board}
use Rattle.board.specs.Board.{sound_board}
use Rattle.board.specs.Step.{Line, line, verdict}
use Rattle.records.specs.Records.{records, steps_of, answers_of}

-- "Run refusals, in this order: 35 board not sound, 32 event length not a multiple of 4, 34 when the start plus the number of event
-- records is more than the buffer's number of whole records". `events`, `room`: the lengths of the two buffers
abbrev pub run_lines : Bool → ℕ → ℕ → ℕ → List Line
run_lines sound events room start =
    line (not sound) 35
    ∷ line (not (events % 4 is 0)) 32
    ∷ line (ltb (room / 4) (start + events / 4)) 34
    ∷ []

unfoldable pub refusal_of : Bool → ℕ → ℕ → ℕ → ℕ
refusal_of sound events room start = verdict (run_lines sound events room start)

abbrev pub run_refusal : Board → ℕ → ℕ → ℕ → ℕ
run_refusal b events room start = refusal_of (sound_board b) events room start

-- the number of records, or the refusal of a run on a sound board
unfoldable pub counted_of : ℕ → ℕ → ℕ → Result ℕ Refusal
counted_of events room start =
    if not (events % 4 is 0) then Err Length else
    if ltb (room / 4) (start + events / 4) then Err Room else
    Ok (events / 4)

-- "Each leaves board and buffer untouched and reports 0 records. Otherwise all records are stepped, refused ones included; the run
-- reports 0 with their number, and other buffer bytes stay". `old`: the answer buffer before
pub record Ran : Type 0 where
  pub code : ℕ
  pub records : ℕ
  pub board : Board

unfoldable pub ran_of : Board → List ℕ → List ℕ → ℕ → Ran
ran_of b es old start =
    if run_refusal b (length es) (length old) start is 0
    then record { code = 0; records = length es / 4; board = steps_of b (records es) }
    else record { code = run_refusal b (length es) (length old) start; records = 0; board = b }

unfoldable pub buffer_of : Board → List ℕ → List ℕ → ℕ → List ℕ
buffer_of b es old start =
    if run_refusal b (length es) (length old) start is 0
    then splice old (4 * start) (answers_of b (records es))
    else old

-- the same of what a run answers, with the board after it
abbrev pub ran_by : Board → Result ℕ Refusal → Ran
ran_by b (Ok n) = record { code = 0; records = n; board = b }
ran_by b (Err r) = record { code = number_of r; records = 0; board = b }
