-- `station::fail` meets its contract. Assumes nothing.
use Rattle.std.proofs.Common.{rules, append_assoc}
use Rattle.std.proofs.KnownBytes.{Appends-trans}
use Rattle.buffers.specs.Text.{ascii}
use Rattle.station.proofs.fail.Goals as goal

pub returns-then-is_ok : goal.returns-then-is_ok
returns-then-is_ok g c =
    λ said. (
      c.trim_end_matches-text.result.now,
      rw (append_assoc _ _ (ascii "\n"), append_assoc)
          (Appends-trans _ (g.W.Write.contents c.write_all.new.self) _ c.args.what.now _ (search rules) (search rules)),
    )
