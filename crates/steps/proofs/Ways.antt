-- What a sweep of every chip comes to.
-- Assumes nothing.
use Rattle.std.specs.Prelude.{Option}
use mathlib.Core.Path.{◌≡◌}
use mathlib.Core.Bool.{false}
use mathlib.Core.List.{List, map}
use Prim.Native.Nat.{ℕ}
use Rattle.chip.specs.declared.Chip.{Chip}
use Rattle.chain.specs.Marks.{Marks, marks_of, caller_of}
use Rattle.board.specs.declared.Board.{Board}
use Rattle.board.specs.declared.Sweep.{Sweep}
use Rattle.board.specs.Board.{within}
use Rattle.board.specs.Step.{answer}
use Rattle.board.specs.Halves.{sweep_of, freed_chips, swept_of, advanced, with_chips, with_swept}

pub swept_is :
    (b : Board) (freed : Option ℕ) (sweep : Sweep) (value q : ℕ) (old next : List Chip) (ms : Marks) → old ≡ freed_chips b.chips freed
    → (next ≡ within b.size (map (sweep_of sweep)) old) × (ms ≡ marks_of b.size next) → q ≡ caller_of ms
    → advanced (with_chips b next) (record { marks = ms; due = false; request = q }) (answer 0 0 value q) ≡ with_swept b (swept_of b.size b.chips freed sweep) value
swept_is b freed sweep value q old next ms e h s = rw (s, h.1, h.0, e)
