-- `records::run_records`: the loop over all records.
-- Assumes nothing.
use Rattle.std.proofs.Common.{◌/◌, length}
use Rattle.board.proofs.Kept.{Kept}
use Rattle.records.proofs.Turns.{Running}
use Rattle.records.proofs.run_records.Given as goal

abbrev pub invariant-loop-i : goal.invariant-loop-i
invariant-loop-i l = record {
  running : Running l.events l.initial.answers l.start l.fn.board (length l.events / 4) l.answers l.board l.i;
  kept : Kept l.board l.look;
}
