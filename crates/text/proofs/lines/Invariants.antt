-- The loop of `text::lines`: its invariant is `Before`. Assumes nothing.
use Rattle.text.proofs.Listings.{Before}
use Rattle.text.proofs.lines.Given as goal

abbrev pub invariant-loop-code : goal.invariant-loop-code
invariant-loop-code l = Before l.answers l.fn.out l.at l.first l.out l.next l.number l.code-index
