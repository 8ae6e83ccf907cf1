-- The goals of `buffers::digits`, by recursion on the number. Assumes nothing.
use Rattle.std.proofs.Common.{arith}
use Rattle.buffers.proofs.Splices.{wrote_byte, wrote_then}
use Rattle.buffers.proofs.Decimals.{digits_one, digits_more, length_one, length_more}
use Rattle.buffers.proofs.+digits.Goals as goal

pub bounds-out-at : goal.bounds-out-at
bounds-out-at t c = omega (arith, length_one c.args.n (omega arith))

pub digits-next-requires : goal.digits-next-requires
digits-next-requires t c = (omega arith, omega (arith, length_more c.args.n (omega arith)))

pub bounds-out-next : goal.bounds-out-next
bounds-out-next t c = omega (arith, length_more c.args.n (omega arith))

pub overflow_add-result-else-n-lt10 : goal.overflow_add-result-else-n-lt10
overflow_add-result-else-n-lt10 t c = omega (arith, length_more c.args.n (omega arith))

pub returns-then-n-lt10 : goal.returns-then-n-lt10
returns-then-n-lt10 t c = rw (digits_one c.args.n (omega arith)) (wrote_byte _ _ _ (omega (arith, length_one c.args.n (omega arith))))

pub returns-else-n-lt10 : goal.returns-else-n-lt10
returns-else-n-lt10 t c =
    let long = length_more c.args.n (omega arith) in
    rw (digits_more c.args.n (omega arith)) (wrote_then (omega arith) c.digits-next.ensures (wrote_byte _ _ _ (omega arith)))
