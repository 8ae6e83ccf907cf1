-- `recording::show`: what the frame put at its front is what is copied.
-- Assumes nothing.
use Rattle.std.proofs.Common.{arith, rules}
use Rattle.recording.proofs.Fronts.{front}
use Rattle.recording.proofs.show.Goals as goal

pub returns-clause-value : goal.returns-clause-value
returns-clause-value c =
    let made = c.put_frame-n in
    let text = front 49 (search rules) made.ensures.wrote in
    (omega (arith, text.1), omega (arith, made.ensures.upper_bound))

pub returns-clause-out_after : goal.returns-clause-out_after
returns-clause-out_after c =
    let text = front 49 (search rules) c.put_frame-n.ensures.wrote in
    rw (← text.0) c.put_bytes.ensures.bytes
