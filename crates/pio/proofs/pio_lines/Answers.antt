-- `pio::pio_lines`: with room for two bytes they are what was told, or the refusal's. Assumes nothing.
use Rattle.std.proofs.Common.{◌∙◌, ap, le-leb, arith}
use Rattle.buffers.proofs.Splices.{start_in_room}
use Rattle.board.specs.Board.{Told}
use Rattle.pio.specs.Lent.{lent_lines, written}
use Rattle.pio.proofs.pio_lines.Goals.{in-Ok, in-Err}
use Rattle.pio.proofs.pio_lines.Goals as goal

pub returns : goal.returns
unfolding lent_lines written
returns c =
    let room = le-leb _ _ c.if-lines-lt2.false in
    let put = start_in_room _ 2 _ _ (omega arith) c.copy_from_slice.ensures.len c.copy_from_slice.ensures.after in
    elim c.match-driven_lines.branch [
      | in-Ok w ↦ let told = w.in-Ok.ensures in record { code = rw room (w.code-is ∙ ap (λ (t : Told). t.code) told); buffer = rw (room, ← told) (rw w.shown-is at put) }
      | in-Err w ↦
          let told = w.in-Err.ensures in
          record { code = rw room (w.code-is ∙ w.into-code.ensures ∙ ap (λ (t : Told). t.code) told); buffer = rw (room, ← told) (rw w.shown-is at put) }
    ]
