-- The definition of the text at work: the readings of Ask 1 in document 02, worked out on fresh boards. Assumes nothing.
use mathlib.Core.Path.{◌≡◌, refl}
use mathlib.Core.List.{List, [], ◌∷◌, ◌++◌, map}
use Prim.Native.Nat.{ℕ, ◌/◌, ◌%◌}
use Prim.Native.String.{String}
use Rattle.bits.specs.Lines.{match_of, mixed_of, levels_of}
use Rattle.buffers.specs.Text.{ascii}
use Rattle.buffers.specs.Digits.{digits_up, digits_of}
use Rattle.port.specs.Rules.{match_now}
use Rattle.chip.specs.Sound.{sound_chip}
use Rattle.events.specs.Act.{event_of}
use Rattle.chain.specs.Chain.{acknowledged, retired}
use Rattle.chain.specs.Decode.{next_of, reti_of}
use Rattle.board.specs.Board.{sound_board, fresh_of, request_of}
use Rattle.board.specs.Step.{refusal, doing_of, taken, accepted, refused, step_of}
use Rattle.records.specs.Records.{records}
use Rattle.frames.specs.Stamps.{stamps_of, times_of}
use Rattle.frames.specs.Values.{values_of}
use Rattle.frames.specs.Frames.{header, time_line, value_line, all_lines, changed_lines, first_frame, later_frame}
use Rattle.recording.specs.Wave.{shots_of, merged, later_frames, frames, wave_text}

-- a record with its stamp: kind, place, value, stamp
data Stamped : Type 0 where
  on : ℕ → ℕ → ℕ → ℕ → Stamped

-- the board's size, the recording, and what stands behind the header
data Case : Type 0 where
  case : ℕ → List Stamped → String → Case

abbrev events : List Stamped → List ℕ
events [] = []
events (on kind place value stamp ∷ more) = kind ∷ place ∷ value ∷ 0 ∷ events more

abbrev stamps : List Stamped → List ℕ
stamps [] = []
stamps (on kind place value stamp ∷ more) = stamp % 256 ∷ stamp / 256 ∷ stamps more

abbrev given : Case → List ℕ
given (case size recording body) = wave_text (fresh_of size).board (events recording) (stamps recording)

abbrev wanted : Case → List ℕ
wanted (case size recording body) = header ++ ascii body

abbrev cases : List Case
cases =
    -- an empty recording is the header alone
    case 1 [] ""
    -- records at time 0: the values after the last of them
    ∷ case 1 (on 3 0 15 7 ∷ on 4 0 1 7 ∷ on 6 0 0 9 ∷ []) "#0\n0!\n1\"\n0#\n0$\n0%\n0&\n0'\n0(\n0)\n"
    -- a change and its undoing at one time: no line, not even the time
    ∷ case 1 (on 3 0 15 0 ∷ on 4 0 1 5 ∷ on 6 0 0 5 ∷ on 6 0 1 5 ∷ on 4 0 2 6 ∷ []) "#0\n0!\n0\"\n0#\n0$\n0%\n0&\n0'\n0(\n0)\n#6\n1\"\n"
    -- stamps that roll over, and equal ones
    ∷ case 1 (on 3 0 15 65535 ∷ on 4 0 1 1 ∷ on 6 0 0 0 ∷ on 6 0 1 0 ∷ []) "#0\n0!\n0\"\n0#\n0$\n0%\n0&\n0'\n0(\n0)\n#2\n1\"\n#65537\n0\"\n"
    -- refused records take their time and change nothing
    ∷ case 1 (on 9 9 9 0 ∷ on 3 0 131 1 ∷ on 1 0 0 2 ∷ on 6 0 0 3 ∷ on 6 0 1 4 ∷ on 99 0 0 5 ∷ on 2 0 0 6 ∷ []) "#0\n0!\n0\"\n0#\n0$\n0%\n0&\n0'\n0(\n0)\n#4\n1!\n#6\n0!\n"
    -- int asks for a place of the second chip
    ∷ case 2 (on 3 3 131 0 ∷ on 1 0 0 1 ∷ on 6 3 0 2 ∷ on 6 3 1 3 ∷ []) "#0\n0!\n0\"\n0#\n0$\n0%\n0&\n0'\n0(\n0)\n#3\n1!\n"
    ∷ []

examples_hold : map given cases ≡ map wanted cases
unfolding match_of mixed_of levels_of match_now sound_chip event_of acknowledged retired next_of reti_of sound_board fresh_of request_of refusal doing_of taken accepted refused step_of records stamps_of times_of values_of header time_line value_line all_lines changed_lines first_frame later_frame digits_of digits_up shots_of merged later_frames frames wave_text
examples_hold = refl
