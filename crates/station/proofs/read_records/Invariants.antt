-- What `station::read_records` keeps while it reads the rest of a record: the bytes that are there are the reader's, and the buffer's whole
-- records take them. Assumes nothing.
use Rattle.std.proofs.Common.{◌≡◌, ◌-◌, ◌%◌, ◌≤◌, length, take}
use Rattle.std.specs.Io.KnownBytes.{Consumes}
use Rattle.station.proofs.read_records.Given as goal

abbrev pub invariant-loop-n : goal.invariant-loop-n
invariant-loop-n g l =
    (l.n ≤ l.whole) × (l.whole % 4 ≡ 0) × (l.whole ≤ length l.buffer)
    × (length l.buffer ≡ length l.fn.buffer) × Consumes (g.R.Read.remaining l.fn.stdin) (g.R.Read.remaining l.stdin) (take l.n l.buffer)

abbrev pub decreases-loop-n : goal.decreases-loop-n
decreases-loop-n g l = l.whole - l.n
