-- The measure of `buffers::digits`: the number. Assumes nothing.
use Rattle.buffers.proofs.+digits.Given as goal

abbrev pub decreases-digits : goal.decreases-digits
decreases-digits l = l.n
