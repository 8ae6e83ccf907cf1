-- `station::why` meets its contract. Assumes nothing.
use Rattle.std.proofs.Common.{◌∙◌, drop}
use Rattle.buffers.specs.Text.{ascii}
use Rattle.station.specs.Failures.{why_of}
use Rattle.station.proofs.Failures.{found, lost}
use Rattle.station.proofs.why.Goals as goal

pub returns-in-Some : goal.returns-in-Some
unfolding why_of
returns-in-Some c = let cut = c.in-Some.ensures.cases in cut.3 ∙ found (ascii " (os error ") c.args.words.now (drop cut.1 c.args.words.now) cut.0 cut.2.0 cut.2.1.split

pub returns-in-None : goal.returns-in-None
unfolding why_of
returns-in-None c = lost (ascii " (os error ") c.args.words.now c.in-None.ensures.cases
