-- `recording::scan`: the loop over all records.
-- Assumes nothing.
use Rattle.std.proofs.Common.{◌/◌, length}
use Rattle.recording.proofs.Scans.{Scanning}
use Rattle.recording.proofs.scan.Given as goal

abbrev pub invariant-loop-i : goal.invariant-loop-i
invariant-loop-i l =
    Scanning l.events l.stamps l.initial.out l.fn.board (length l.events / 4) l.out l.board l.look l.next l.shown l.time l.i
