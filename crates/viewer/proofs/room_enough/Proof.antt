-- `viewer::room_enough` meets its contract. Assumes nothing.
use Rattle.recording.proofs.Bounds.{wave_bound, never_forty}
use Rattle.viewer.proofs.room_enough.Statement.{statement}
use Rattle.viewer.proofs.room_enough.Tie as tie

pub room_enough_spec : {M : Type 1} → statement M
room_enough_spec = tie.close (tie.spec (λ c. (wave_bound, never_forty)))
