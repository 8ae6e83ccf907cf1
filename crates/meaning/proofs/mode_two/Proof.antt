-- The statements about mode 2 have their proofs.
use Rattle.meaning.proofs.mode_two.Statement.{statement}
use Rattle.meaning.proofs.mode_two.Tie as tie
use Rattle.meaning.proofs.Mode2.{mode2, coupled_settles, recouples, one_chip, b_answers}

pub mode_two_spec : {M : Type 1} → statement M
mode_two_spec = tie.close (tie.spec (λ c. ((mode2, (coupled_settles, recouples)), (one_chip, b_answers))))
