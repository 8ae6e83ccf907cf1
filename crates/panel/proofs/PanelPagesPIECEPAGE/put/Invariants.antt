-- What `put` of `panel::Panel` keeps from record to record is `Before`. Assumes nothing.
use Rattle.panel.proofs.Pages.{Before}
use Rattle.panel.proofs.PanelPagesPIECEPAGE.put.Given as goal

abbrev pub invariant-loop-event : goal.invariant-loop-event
invariant-loop-event l =
    Before l.input l.fn.out l.fn.self.board l.fn.self.number l.out l.self.board l.self.number l.next l.event-index
