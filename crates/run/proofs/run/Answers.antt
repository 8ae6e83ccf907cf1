-- `run::run`: taken.
-- Assumes nothing.
use Rattle.run.proofs.Ways.{run_counted, run_taken}
use Rattle.run.proofs.run.Goals as goal

pub run_records-requires-clause-events_len : goal.run_records-requires-clause-events_len
run_records-requires-clause-events_len c =
    let k = run_counted c.args.board.now c.args.events.now c.args.answers.now c.args.start c.in_ok-n.n c.in_ok-n.ensures in
    (k.whole, k.room)

pub returns : goal.returns
returns c =
    let k = run_counted c.args.board.now c.args.events.now c.args.answers.now c.args.start c.in_ok-n.n c.in_ok-n.ensures in
    let all = run_taken c.args.board.now c.args.events.now c.args.answers.now c.args.start c.in_ok-look.look c.in_ok-look.ensures.0 c.in_ok-n.n _ _ k c.run_records.ensures.board_after c.run_records.ensures.answers_after in
    record { value = all.0; answers_after = all.1 }
