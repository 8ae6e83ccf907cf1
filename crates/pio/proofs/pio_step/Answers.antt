-- `pio::pio_step`: with room for its answer it is the step. Assumes nothing.
use Rattle.std.proofs.Common.{ap, le-leb}
use Rattle.board.specs.declared.Answer.{Answer}
use Rattle.board.specs.Step.{bytes_of}
use Rattle.pio.specs.Lent.{lent_of, written}
use Rattle.pio.proofs.pio_step.Goals as goal

pub returns : goal.returns
unfolding lent_of written bytes_of
returns c =
    let room = le-leb _ _ c.if-answer-lt4.false in
    let step = c.step-a.ensures in
    record {
      code = rw room (ap (λ (a : Answer). a.code) step.value);
      board = rw room step.board_after;
      buffer = rw (room, ← step.value) (rw c.from.ensures at c.put_record.ensures.out_after);
    }
