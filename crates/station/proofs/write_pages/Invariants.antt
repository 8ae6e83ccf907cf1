-- What `station::write_pages` keeps from piece to piece is `Turn`. Assumes nothing.
use Rattle.station.proofs.Turns.{Turn}
use Rattle.station.proofs.write_pages.Given as goal

abbrev pub invariant-loop : goal.invariant-loop
invariant-loop g l =
    Turn (g.P.Pages.text_of l.fn.pages) (g.P.Pages.text_of l.pages) (g.R.Read.remaining l.fn.stdin) (g.R.Read.remaining l.stdin)
    (g.O.Write.contents l.fn.stdout) (g.O.Write.contents l.stdout)
