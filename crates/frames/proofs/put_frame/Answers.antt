-- The goals of `frames::put_frame`: without room, without a change, and with a text. Assumes nothing.
use Rattle.std.proofs.Common.{sym, ◌∙◌, arith, rules}
use Rattle.buffers.proofs.Splices.{wrote_in_room, wrote_then}
use Rattle.frames.proofs.Changes.{frame}
use Rattle.frames.proofs.put_frame.Goals as goal

pub returns-clause-wrote : goal.returns-clause-wrote
returns-clause-wrote c =
    let e = frame c.args.time c.args.shown c.args.values (search rules) (sym c.eq.ensures ∙ c.if-eq.false) in
    wrote_in_room 49 (omega arith) (rw e (wrote_then (omega arith) c.put_time-next.ensures.wrote c.put_changes.ensures.wrote))
