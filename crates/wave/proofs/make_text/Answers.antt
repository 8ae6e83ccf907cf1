-- `wave::make_text` meets its contract. Assumes nothing.
use Rattle.std.proofs.lemmas.Result.{err_from_is_err_and}
use Rattle.wave.proofs.Ways.{no_board, exported}
use Rattle.wave.proofs.make_text.Goals as goal

pub returns-in_err-board-clause-value : goal.returns-in_err-board-clause-value
returns-in_err-board-clause-value c =
    let why = err_from_is_err_and c.from_residual.result c.from_residual.ensures.1 in
    rw (why.1, why.2) (no_board c.args.size c.args.events.now c.args.stamps.now c.args.out.now c.in_err-board.field-0.0 c.in_err-board.ensures).0

pub returns-in_err-board-clause-out_after : goal.returns-in_err-board-clause-out_after
returns-in_err-board-clause-out_after c = (no_board _ _ _ _ c.in_err-board.field-0.0 c.in_err-board.ensures).1.0

pub returns-clause-value : goal.returns-clause-value
returns-clause-value c = (exported c.args.size _ _ _ _ c.export.result c.in_ok-board.ensures c.export.ensures.value c.export.ensures.out_after).0

pub returns-clause-out_after : goal.returns-clause-out_after
returns-clause-out_after c = (exported c.args.size _ _ _ _ c.export.result c.in_ok-board.ensures c.export.ensures.value c.export.ensures.out_after).1.0

pub returns-clause-length_in_bounds : goal.returns-clause-length_in_bounds
returns-clause-length_in_bounds c = (exported c.args.size _ _ _ _ c.export.result c.in_ok-board.ensures c.export.ensures.value c.export.ensures.out_after).1.1
