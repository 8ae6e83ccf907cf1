-- The statements about sessions have their proofs.
use Rattle.meaning.proofs.any_session.Statement.{statement}
use Rattle.meaning.proofs.any_session.Tie as tie
use Rattle.meaning.proofs.Bytes.{keeps_size, keeps_bytes, keeps_prefix}
use Rattle.meaning.proofs.Sessions.{keeps_ready_low, after_any_session, kept_by_sessions}

pub any_session_spec : {M : Type 1} → statement M
any_session_spec = tie.close (tie.spec (λ c. ((keeps_size, (keeps_bytes, (keeps_ready_low, keeps_prefix))), (after_any_session, kept_by_sessions))))
