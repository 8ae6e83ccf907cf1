-- `station::read_records` meets its contract. Assumes nothing.
use Rattle.std.proofs.Common.{rules}
use Rattle.std.proofs.KnownBytes.{Consumes-trans}
use Rattle.station.proofs.Parts.{both_there}
use Rattle.station.proofs.read_records.Goals as goal

pub loop-n-preserved : goal.loop-n-preserved
loop-n-preserved g c = (
  search rules,
  search rules,
  search rules,
  search rules,
  rw (both_there c.loop-n.n c.in-Ok.more _ c.loop-n.buffer c.read-in-loop-n.new.buf (search rules) (search rules))
      (Consumes-trans _ _ _ _ _ c.loop-n.invariant.4 c.in-Ok.ensures.bytes.0),
)
