-- `shortcuts::control`: a word for B leaves A at rest.
-- Assumes nothing.
use Rattle.shortcuts.proofs.Sound.{word_b}
use Rattle.shortcuts.proofs.control.Goals as goal

pub returns-then-on_b : goal.returns-then-on_b
returns-then-on_b c = λ h. search (word_b, c.in_ok-d.was)
