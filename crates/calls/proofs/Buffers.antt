-- What stands in a buffer after a call: the block that was written, and how long the buffer is.
-- Assumes nothing.
use mathlib.Core.Path.{◌≡◌, refl}
use mathlib.Core.List.{List, ◌++◌, append_assoc}
use Prim.Native.Nat.{ℕ, ◌+◌, ◌≤◌, ◌<◌}
use native.Mathlib.Omega.{arith}
use lib.ListN.{length, take, drop}
use lib.Seq.{drop_at, take_at, length-take-le}
use Rattle.buffers.specs.Splice.{splice}
use Rattle.buffers.proofs.Splices.{splice_none, length_splice, room, no_room}
use Rattle.pio.specs.Lent.{written}

pub splice_drop : (old : List ℕ) (at : ℕ) (block : List ℕ) → at ≤ length old → drop at (splice old at block) ≡ block ++ drop (at + length block) old
unfolding splice
splice_drop old at block h = rw append_assoc (drop_at (take at old) (block ++ drop (at + length block) old) at (length-take-le at old h))

module _ (old block : List ℕ) where
  pub written_room : length block ≤ length old → written old block ≡ splice old 0 block
  unfolding written
  written_room h = rw (room old 0 (length block) block (omega arith))

  pub written_short : length old < length block → written old block ≡ old
  unfolding written
  written_short h = rw (no_room old 0 (length block) block (omega arith)) (splice_none old 0)

  pub written_length : length block ≤ length old → length (written old block) ≡ length old
  written_length h = rw (written_room h) (length_splice old 0 block (omega arith))

  pub written_front : length block ≤ length old → take (length block) (written old block) ≡ block
  unfolding splice
  written_front h = rw (written_room h) (take_at block (drop (0 + length block) old) (length block) refl)
