-- The line of a time: a byte, the digits, a byte.
-- Assumes nothing.
use Rattle.std.proofs.Common.{◌≡◌, ℕ, ◌+◌, ◌≤◌, List, length, set, ◌∙◌, arith, length-set, w64, Fits}
use Rattle.buffers.specs.Digits.{digits_of}
use Rattle.buffers.specs.Splice.{if_room, Wrote}
use Rattle.buffers.proofs.Decimals.{length_below}
use Rattle.buffers.proofs.Splices.{wrote_all, wrote_byte, wrote_then, wrote_length}
use Rattle.frames.specs.Frames.{time_line}

pub record Timed (old : List ℕ) (time : ℕ) (m : List ℕ) (n : ℕ) : Type 0 where
  pub room : n + 1 ≤ 22
  pub long : length m ≡ length old
  pub line : Wrote old 0 (time_line time) (set m n 10) (n + 1)

pub timed : (old : List ℕ) (time : ℕ) {m : List ℕ} {n : ℕ} → 22 ≤ length old → Fits w64 time → Wrote (set old 0 35) 1 (if_room (set old 0 35) 1 (length (digits_of time)) (digits_of time)) m n
    → Timed old time m n
unfolding time_line
timed old time {m} {n} h f w =
    let few : length (digits_of time) ≤ 20 = length_below 19 time (omega arith) in
    let same = length-set old 0 35 in
    let number = wrote_all _ (omega (arith, same, few)) w in
    let long = wrote_length number (omega (arith, same, few, number.ends)) ∙ same in
    record {
      room = omega (arith, few, number.ends);
      long = long;
      line = wrote_then (omega arith) (wrote_then (omega arith) (wrote_byte old 0 35 (omega arith)) number) (wrote_byte m n 10 (omega (arith, few, number.ends, long)));
    }
