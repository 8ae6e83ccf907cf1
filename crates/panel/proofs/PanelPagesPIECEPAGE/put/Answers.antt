-- `put` of `panel::Panel` meets its contract. Assumes nothing.
use Rattle.std.proofs.Common.{arith}
use Rattle.panel.proofs.Pages.{turn, done}
use Rattle.panel.proofs.Whole.{pieces}
use Rattle.panel.proofs.PanelPagesPIECEPAGE.put.Goals as goal

pub loop-event-preserved : goal.loop-event-preserved
loop-event-preserved c =
    let chunks = c.as_chunks.ensures in
    let page = c.put_record-next.ensures in
    turn _ _ _ _ (omega (arith, c.told-out)) chunks.front (omega (arith, chunks.front_len, c.loop-event-test.true)) c.loop-event.invariant page.board_value page.wrote page.end_bound

pub returns-clause-board_value : goal.returns-clause-board_value
returns-clause-board_value c =
    (done _ _ _ _ (omega (arith, c.told-out)) c.loop-event.invariant (omega (arith, c.as_chunks.ensures.front_len)) c.put_tail.ensures.wrote c.put_tail.ensures.upper_bound).0

pub returns-clause-wrote : goal.returns-clause-wrote
returns-clause-wrote c =
    (done _ _ _ _ (omega (arith, c.told-out)) c.loop-event.invariant (omega (arith, c.as_chunks.ensures.front_len)) c.put_tail.ensures.wrote c.put_tail.ensures.upper_bound).1.1.0

pub returns-clause-goes_on : goal.returns-clause-goes_on
returns-clause-goes_on c =
    let self = c.args.self.now in
    let end = done _ _ _ _ (omega (arith, c.told-out)) c.loop-event.invariant (omega (arith, c.as_chunks.ensures.front_len)) c.put_tail.ensures.wrote c.put_tail.ensures.upper_bound in
    λ whole more. rw (end.0, end.1.0) (pieces self.board self.number c.args.input.now more (omega arith) whole)
