-- `viewer::export_reads` meets its contract. Assumes nothing.
use Rattle.viewer.proofs.Viewed.{export_reads}
use Rattle.viewer.proofs.Only.{one_text}
use Rattle.viewer.proofs.export_reads.Statement.{statement}
use Rattle.viewer.proofs.export_reads.Tie as tie

pub export_reads_spec : {M : Type 1} → statement M
export_reads_spec = tie.close (tie.spec (λ c. (export_reads, one_text)))
