-- What a writer put at the start of a buffer can be read back there.
-- Assumes nothing.
use mathlib.Core.Path.{◌≡◌}
use mathlib.Core.List.{List}
use Prim.Native.Nat.{ℕ, ◌≤◌}
use native.Mathlib.Omega.{arith}
use lib.ListN.{length, take}
use lib.Seq.{take-append_seam}
use Rattle.buffers.specs.Splice.{splice, if_room, Wrote}
use Rattle.buffers.proofs.Splices.{wrote_all}

pub front : {old m b : List ℕ} {n : ℕ} (need : ℕ) → need ≤ length old → Wrote old 0 (if_room old 0 need b) m n → (take n m ≡ b) × (n ≡ length b)
unfolding splice
front {old} {m} {b} {n} need h w =
    let all = wrote_all need (omega arith) w in
    let ends : n ≡ length b = omega (arith, all.ends) in
    (rw (all.bytes, ends) (take-append_seam b _), ends)
