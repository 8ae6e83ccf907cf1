-- `put_record` of `panel::Panel` meets its contract. Assumes nothing.
use Rattle.panel.proofs.Pages.{page}
use Rattle.panel.proofs.Panel.put_record.Goals as goal

pub returns-clause-wrote : goal.returns-clause-wrote
returns-clause-wrote c =
    let step = c.step-answer.ensures in
    page c.args.self.now.number _ c.from.ensures step.value step.board_after c.requires c.put_answers-next.ensures.wrote c.put_answers-next.ensures.upper_bound
    c.put_places.ensures.wrote
