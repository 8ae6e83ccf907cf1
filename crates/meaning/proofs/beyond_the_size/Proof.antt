-- The statements about places beyond the size have their proofs.
use Rattle.meaning.proofs.beyond_the_size.Statement.{statement}
use Rattle.meaning.proofs.beyond_the_size.Tie as tie
use Rattle.meaning.proofs.Beyond.{not_read, not_changed}

pub beyond_the_size_spec : {M : Type 1} → statement M
beyond_the_size_spec = tie.close (tie.spec (λ c. (not_read, not_changed)))
