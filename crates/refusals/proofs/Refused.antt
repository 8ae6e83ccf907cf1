-- No refusal has the number 0, which says that nothing is refused. Assumes nothing.
use Rattle.std.proofs.Common.{◌≡◌, arith}
use Rattle.refusals.specs.declared.Refusal.{Refusal}
use Rattle.refusals.specs.declared.Refusal.TheVariants.{Kind, Place, Value, NoForm, NotOnB, Length, Size, Room, Unsound, Records, Text, Stamps}
use Rattle.refusals.specs.Numbers.{number_of}

pub refused : (r : Refusal) → number_of r ≡ 0 → ⊥
refused Kind e = omega (arith, e)
refused Place e = omega (arith, e)
refused Value e = omega (arith, e)
refused NoForm e = omega (arith, e)
refused NotOnB e = omega (arith, e)
refused Length e = omega (arith, e)
refused Size e = omega (arith, e)
refused Room e = omega (arith, e)
refused Unsound e = omega (arith, e)
refused Records e = omega (arith, e)
refused Text e = omega (arith, e)
refused Stamps e = omega (arith, e)
