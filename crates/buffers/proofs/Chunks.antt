-- The chunks of a list, as `as_chunks` cuts it. Assumes nothing.
use Rattle.std.specs.Simd.{first_chunks}
use mathlib.Core.Path.{◌≡◌, ◌∙◌}
use mathlib.Core.List.{List, []}
use Prim.Native.Nat.{ℕ, zero, suc, ◌+◌, ◌*◌, ◌<◌}
use native.Mathlib.Omega.{arith}
use lib.ListN.{get_or, take, drop}
use lib.Seq.{drop-drop}

-- chunk i of k chunks of n elements
pub chunk_at : (n k i : ℕ) (xs : List ℕ) → i < k → get_or (first_chunks n k xs) i [] ≡ take n (drop (n * i) xs)
chunk_at n zero i xs h = absurd (omega arith)
chunk_at n (suc k) zero xs h = let e : 0 ≡ n * 0 = omega arith in rw (← e)
chunk_at n (suc k) (suc i) xs h = let e : n + n * i ≡ n * suc i = omega arith in chunk_at n k i (drop n xs) (omega arith) ∙ rw (drop-drop, e)
