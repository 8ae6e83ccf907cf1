-- Document 02, Ask 1, from the viewer's side: what the text of an accepted export shows. The statement speaks of the export's own result
-- and buffer, of the step and of the stamps, and not of how the text is put together.
-- Assumes nothing.
use Rattle.std.specs.Prelude.{◌≡◌, List, [], ◌∷◌, ◌++◌, map, ℕ, suc, ◌+◌, ◌≤◌, ◌<◌, length, get_or, take}
use Rattle.board.specs.declared.Board.{Board}
use Rattle.board.specs.Step.{Stepped, step_of}
use Rattle.records.specs.Records.{records, steps_of}
use Rattle.frames.specs.Stamps.{stamps_of, times_of}
use Rattle.frames.specs.Values.{values_of}
use Rattle.frames.specs.Frames.{header, identifier}
use Rattle.recording.specs.Wave.{exported_of, page_of}
use Rattle.viewer.specs.Reader.{Change, Frame, frames_in, written, shown_at, shown_before}

-- ---- the recording
-- "Time is 0 at the first record and grows by the wrapping difference"
abbrev pub times_in : List ℕ → List ℕ
times_in stamps = times_of 0 (stamps_of stamps)

-- what record k leaves, counted from 0: the board, and the answer with its request
abbrev pub left_by : Board → List (List ℕ) → ℕ → Stepped
left_by b rs k = step_of (steps_of b (take k rs)) (get_or rs k [])

-- int and rdy0 to rdy7 after record k
abbrev pub values_after : Board → List (List ℕ) → ℕ → List ℕ
values_after b rs k = values_of (left_by b rs k).board.size (left_by b rs k).board.chips (left_by b rs k).answer.request

-- record k is the last up to `time`: every later one comes after it
pub record Last (times : List ℕ) (time k : ℕ) : Type 0 where
  pub there : k < length times
  pub reached : get_or times k 0 ≤ time
  pub later : (j : ℕ) → k < j → j < length times → time < get_or times j 0

-- ---- what is shown
abbrev pub Each : {A : Type 0} → (A → Type 0) → List A → Type 0
Each P [] = Unit {0}
Each P (x ∷ xs) = P x × Each P xs

-- "Records at one time are merged and show the values after the last of them": at `time` the viewer has the values of the nine lines
-- after the last record up to then
pub record Shown (b : Board) (events stamps : List ℕ) (frames : List Frame) (time : ℕ) : Type 0 where
  pub k : ℕ
  pub last : Last (times_in stamps) time k
  pub values : (line : ℕ) → line < 9 → shown_at frames time (identifier + line) ≡ get_or (values_after b (records events) k) line 0

-- "later times only changes": just before, the line was shown at another value, or, at time 0, at none
abbrev pub Changed : List Frame → Frame → Type 0
Changed frames f = Each (λ (c : Change). shown_before frames f.time c.character ≡ c.value → ⊥) f.changes

-- "in that order": the lines are of the nine, from this character on, each with a larger character than the one before
abbrev pub Ordered : ℕ → List Change → Type 0
Ordered from [] = Unit {0}
Ordered from (c ∷ cs) = (from ≤ c.character) × ((c.character < identifier + 9) × Ordered (suc c.character) cs)

-- "and a time without a change no line"
abbrev pub Filled : Frame → Type 0
Filled f = 0 < length f.changes

abbrev pub times : List Frame → List ℕ
times frames = map (λ (f : Frame). f.time) frames

-- frames that tell what a recording says, and no more
pub record Tells (b : Board) (events stamps : List ℕ) (frames : List Frame) : Type 0 where
  -- "An empty recording gives the header alone"; any other begins at time 0, and time grows from frame to frame
  pub none : length (records events) ≡ 0 → frames ≡ []
  pub first : 0 < length (records events) → take 1 (times frames) ≡ 0 ∷ []
  pub grows : (i : ℕ) → suc i < length frames → get_or (times frames) i 0 < get_or (times frames) (suc i) 0
  pub filled : Each Filled frames
  pub ordered : Each (λ (f : Frame). Ordered identifier f.changes) frames
  pub changed : Each (Changed frames) frames
  pub shown : 0 < length (records events) → (time : ℕ) → Shown b events stamps frames time

-- a text of which a viewer reads such frames: the header and these frames, and nothing else
pub record Reads (b : Board) (events stamps text : List ℕ) : Type 0 where
  pub whole : text ≡ header ++ written (frames_in text)
  pub tells : Tells b events stamps (frames_in text)

-- "An accepted export reports the text's length": as many bytes at the start of the buffer, which was `old`
abbrev pub ExportReads : Type 0
ExportReads = (b : Board) (events stamps old : List ℕ) → (exported_of b events stamps (length old)).code ≡ 0
    → Reads b events stamps (take (exported_of b events stamps (length old)).length (page_of b events stamps old))

-- The statement leaves nothing open: no two texts read so.
abbrev pub OneText : Type 0
OneText = (b : Board) (events stamps text other : List ℕ) → Reads b events stamps text → Reads b events stamps other → text ≡ other
