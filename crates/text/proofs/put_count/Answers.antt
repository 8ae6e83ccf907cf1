-- The goal of `text::put_count` with room: the word, and the number's row. Assumes nothing.
use Rattle.std.proofs.Common.{arith}
use Rattle.buffers.proofs.Splices.{wrote_in_room, wrote_all, wrote_then}
use Rattle.text.proofs.put_count.Goals as goal

pub returns-clause-wrote : goal.returns-clause-wrote
returns-clause-wrote c =
    let word = wrote_all _ (omega arith) c.put_bytes-next.ensures in
    wrote_in_room _ (omega arith) (wrote_then (omega arith) word (wrote_all _ (omega (arith, word.ends)) c.put_row.ensures.wrote))
