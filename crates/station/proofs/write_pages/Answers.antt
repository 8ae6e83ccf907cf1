-- `station::write_pages` meets its contract. Assumes nothing.
use Rattle.std.proofs.Common.{rules, take, subst}
use Rattle.std.specs.Io.KnownBytes.{Appends}
use Rattle.station.proofs.Turns.{written, begin, turn, done}
use Rattle.station.proofs.write_pages.Goals as goal

pub loop-init : goal.loop-init
loop-init g c = begin _ _ _

pub returns-then-n : goal.returns-then-n
returns-then-n g c =
    λ taken. done _ _ (take c.in-Ok.n c.read_records.new.buffer) c.loop.invariant c.in-Ok.ensures.bytes (subst (Appends _ _) (written c.put-end.ensures.wrote) (c.write_text.ensures (search rules)))

pub loop-preserved : goal.loop-preserved
loop-preserved g c =
    turn _ _ (take c.in-Ok.n c.read_records.new.buffer) c.loop.invariant c.in-Ok.ensures.bytes (subst (Appends _ _) (written c.put-end.ensures.wrote) (c.write_text.ensures (search rules))) c.put-end.ensures.goes_on (search rules)
