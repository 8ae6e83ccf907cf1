-- The contract is the promise, and proofs/Promise.antt has it. Assumes nothing.
use Rattle.calls.proofs.Promise.{promise}
use Rattle.calls.proofs.kept_promise.Statement.{statement}
use Rattle.calls.proofs.kept_promise.Tie as tie

pub kept_promise_spec : {M : Type 1} → statement M
kept_promise_spec = tie.close (tie.spec (λ c. promise))
