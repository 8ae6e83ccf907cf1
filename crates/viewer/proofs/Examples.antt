-- The viewer at work: a small text, the frames in it, and a line's value at some times. Assumes nothing.
use mathlib.Core.Path.{◌≡◌, refl}
use mathlib.Core.List.{List, [], ◌∷◌, ◌++◌, map}
use Prim.Native.Nat.{ℕ}
use Rattle.buffers.specs.Text.{ascii}
use Rattle.frames.specs.Frames.{header}
use Rattle.viewer.specs.Reader.{Change, Frame, frames_in, unknown, shown_at, shown_before}

-- int and rdy0
abbrev int : ℕ → Change
int value = record { character = 33; value = value }

abbrev rdy0 : ℕ → Change
rdy0 value = record { character = 34; value = value }

abbrev frames : List Frame
frames =
    record { time = 0; changes = int 0 ∷ rdy0 1 ∷ [] }
    ∷ record { time = 12; changes = rdy0 0 ∷ [] }
    ∷ record { time = 65537; changes = int 1 ∷ rdy0 1 ∷ [] }
    ∷ []

frames_read : frames_in (header ++ ascii "#0\n0!\n1\"\n#12\n0\"\n#65537\n1!\n1\"\n") ≡ frames
unfolding frames_in header
frames_read = refl

-- rdy0 falls at 12 and rises at 65,537; of rdy1, with character 35, nothing is shown
rdy0_shown : map (λ (time : ℕ). shown_at frames time 34) (0 ∷ 11 ∷ 12 ∷ 65536 ∷ 65537 ∷ []) ≡ 1 ∷ 1 ∷ 0 ∷ 0 ∷ 1 ∷ []
rdy0_shown = refl

rdy0_before : map (λ (time : ℕ). shown_before frames time 34) (0 ∷ 12 ∷ 65537 ∷ []) ≡ unknown ∷ 1 ∷ 0 ∷ []
rdy0_before = refl

rdy1_unknown : shown_at frames 65537 35 ≡ unknown
rdy1_unknown = refl
