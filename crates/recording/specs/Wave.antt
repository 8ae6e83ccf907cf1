-- Document 02, Ask 1: the export of a recording, from its records and stamps to the text.
-- Assumes nothing.
use Rattle.std.specs.Prelude.{Bool, not, List, [], ◌∷◌, ◌++◌, ℕ, ◌*◌, ◌/◌, ◌%◌, ltb, length, Result, Ok, Err, if◌then◌else◌}
use Rattle.bits.specs.Bits.{◌is◌}
use Rattle.buffers.specs.Splice.{splice}
use Rattle.refusals.specs.declared.Refusal.{Refusal}
use Rattle.refusals.specs.declared.Refusal.TheVariants.{Length, Records, Stamps, Text}
use Rattle.refusals.specs.Numbers.{number_of}
use Rattle.board.specs.declared.Board.{Board}
use Rattle.board.specs.Board.{sound_board}
use Rattle.board.specs.Step.{Line, line, verdict, Stepped, step_of}
use Rattle.records.specs.Records.{records, steps_of}
use Rattle.frames.specs.Stamps.{stamps_of, times_of}
use Rattle.frames.specs.Values.{values_of}
use Rattle.frames.specs.Frames.{header, first_frame, later_frame}

-- ---- what there is to show: the time of each record, and the values after it
pub record Shot : Type 0 where
  pub time : ℕ
  pub values : List ℕ

abbrev pub shot_of : ℕ → Stepped → Shot
shot_of time s = record { time = time; values = values_of s.board.size s.board.chips s.answer.request }

-- every record has a shot: a refused one takes its time and changes nothing
unfoldable pub shots_of : Board → List (List ℕ) → List ℕ → List Shot
shots_of b (e ∷ es) (t ∷ ts) = shot_of t (step_of b e) ∷ shots_of (step_of b e).board es ts
shots_of b [] ts = []
shots_of b (e ∷ es) [] = []

-- "Records at one time are merged and show the values after the last of them"
unfoldable pub merged : List Shot → List Shot
merged [] = []
merged (s ∷ []) = s ∷ []
merged (s ∷ t ∷ ss) = if s.time is t.time then merged (t ∷ ss) else s ∷ merged (t ∷ ss)

-- ---- the text
-- "later times only changes": `shown`, the values as they were shown last
unfoldable pub later_frames : List ℕ → List Shot → List ℕ
later_frames shown [] = []
later_frames shown (s ∷ ss) = later_frame s.time shown s.values ++ later_frames s.values ss

-- "Time 0 shows all nine values in order"
unfoldable pub frames : List Shot → List ℕ
frames [] = []
frames (s ∷ ss) = first_frame s.time s.values ++ later_frames s.values ss

-- "Time is 0 at the first record"; "An empty recording gives the header alone"
unfoldable pub wave_text : Board → List ℕ → List ℕ → List ℕ
wave_text b events stamps = header ++ frames (merged (shots_of b (records events) (times_of 0 (stamps_of stamps))))

-- ---- "Refusals: after 35 and 32, 36 for more than 16,384 records, 41 when the stamps are not exactly two bytes for each record, then 40
-- when the text is longer than the buffer". `events`, `stamps`, `text`, `room`: the lengths of the events, the stamps, the text and the buffer
abbrev pub wave_lines : Bool → ℕ → ℕ → ℕ → ℕ → List Line
wave_lines sound events stamps text room =
    line (not sound) 35
    ∷ line (not (events % 4 is 0)) 32
    ∷ line (ltb 16384 (events / 4)) 36
    ∷ line (not (stamps is 2 * (events / 4))) 41
    ∷ line (ltb room text) 40
    ∷ []

unfoldable pub refusal_of : Bool → ℕ → ℕ → ℕ → ℕ → ℕ
refusal_of sound events stamps text room = verdict (wave_lines sound events stamps text room)

abbrev pub wave_refusal : Board → List ℕ → List ℕ → ℕ → ℕ
wave_refusal b events stamps room = refusal_of (sound_board b) (length events) (length stamps) (length (wave_text b events stamps)) room

-- the same of a sound board, in the code's types: nothing, or the first refusal
unfoldable pub checked_of : ℕ → ℕ → ℕ → ℕ → Result (Unit {0}) Refusal
checked_of events stamps text room =
    if not (events % 4 is 0) then Err Length else
    if ltb 16384 (events / 4) then Err Records else
    if not (stamps is 2 * (events / 4)) then Err Stamps else
    if ltb room text then Err Text else
    Ok tt

-- "nothing is written, the length is 0 and the board is unchanged"; "An accepted export leaves the board as the run would, reports the
-- text's length and leaves the buffer's other bytes". `old`: the buffer before
pub record Exported : Type 0 where
  pub code : ℕ
  pub length : ℕ
  pub board : Board

unfoldable pub exported_of : Board → List ℕ → List ℕ → ℕ → Exported
exported_of b events stamps room =
    if wave_refusal b events stamps room is 0
    then record { code = 0; length = length (wave_text b events stamps); board = steps_of b (records events) }
    else record { code = wave_refusal b events stamps room; length = 0; board = b }

unfoldable pub page_of : Board → List ℕ → List ℕ → List ℕ → List ℕ
page_of b events stamps old =
    if wave_refusal b events stamps (length old) is 0 then splice old 0 (wave_text b events stamps) else old

-- the same of what an export answers, with the board after it
abbrev pub exported_by : Board → Result ℕ Refusal → Exported
exported_by b (Ok n) = record { code = 0; length = n; board = b }
exported_by b (Err r) = record { code = number_of r; length = 0; board = b }
