-- The statements in plain words have their proofs.
use Rattle.meaning.proofs.plain_words.Statement.{statement}
use Rattle.meaning.proofs.plain_words.Tie as tie
use Rattle.meaning.proofs.Sound.{sound_says}
use Rattle.meaning.proofs.Match.{or_match, and_match}

pub plain_words_spec : {M : Type 1} → statement M
plain_words_spec = tie.close (tie.spec (λ c. (sound_says, (or_match, and_match))))
