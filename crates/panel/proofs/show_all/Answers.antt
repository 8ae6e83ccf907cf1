-- `panel::show_all` meets its contract. Assumes nothing.
use Rattle.std.proofs.Common.{rules, length, subst}
use Rattle.std.specs.Io.KnownBytes.{Appends}
use Rattle.std.proofs.KnownBytes.{Appends-trans}
use Rattle.buffers.proofs.Splices.{wrote_all}
use Rattle.station.proofs.Turns.{written}
use Rattle.text.specs.Panel.{columns}
use Rattle.panel.proofs.show_all.Goals as goal

pub returns : goal.returns
returns g c =
    λ shown.
    let (bytes, read, pages) = c.write_pages.ensures shown in
    let front = written (wrote_all (length columns) (search rules) c.put_columns-end.ensures.wrote) in
    (bytes, read, Appends-trans _ (g.O.Write.contents c.write_text.new.stdout) _ columns _ (subst (Appends _ _) front (c.write_text.ensures (search rules))) pages)
