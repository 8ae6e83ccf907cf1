-- What `wave::read_all` keeps from turn to turn: what is counted lies in the buffer. Assumes nothing.
use Rattle.std.proofs.Common.{◌<◌, length}
use Rattle.wave.proofs.read_all.Given as goal

abbrev pub invariant-loop : goal.invariant-loop
invariant-loop g l = l.count < length l.buffer
