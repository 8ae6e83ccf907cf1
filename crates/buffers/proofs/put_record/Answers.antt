-- The goal of `buffers::put_record` with room: the buffer's start came back as the record. Assumes nothing.
use Rattle.std.proofs.Common.{[], ◌∷◌, ◌∙◌, ap, rules}
use Rattle.buffers.specs.Splice.{splice}
use Rattle.buffers.proofs.Splices.{sets_splice, room, four}
use Rattle.buffers.proofs.put_record.Goals as goal

pub returns-clause-out_after : goal.returns-clause-out_after
returns-clause-out_after c =
    rw (room _ 0 4 _ c.if-out-lt4.false)
    (sets_splice _ 0 (_ ∷ _ ∷ _ ∷ _ ∷ []) c.if-out-lt4.false ∙ ap (splice c.args.out.now 0) (four c.args.bytes (search rules)))
