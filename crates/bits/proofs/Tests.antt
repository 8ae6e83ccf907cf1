-- What a branch's test says of the definitions' own tests: one set for `search`.
-- Assumes nothing.
use Rattle.std.specs.Prelude.{if◌then◌else◌}
use mathlib.Core.Path.{◌≡◌, refl}
use mathlib.Core.Bool.{Bool, true, false}
use borrow.Author.Tests.{eq-eqb, ne_eqb, lt-ltb, le-ltb, le-leb, lt-leb}
use mir.Val.{bool_byte}

pub if_on : {A : Type 0} (b : Bool) (x y : A) → b ≡ true → (if b then x else y) ≡ x
if_on b x y e = rw e

pub if_off : {A : Type 0} (b : Bool) (x y : A) → b ≡ false → (if b then x else y) ≡ y
if_off b x y e = rw e

-- `b as u8`
pub bool_byte_lem : (b : Bool) → bool_byte b ≡ (if b then 1 else 0)
bool_byte_lem true = refl
bool_byte_lem false = refl

-- the same for a chain of choices whose end is the result: one step for each test, with no rewriting
pub take : {A : Type 0} (b : Bool) (r x y : A) → b ≡ true → r ≡ x → r ≡ (if b then x else y)
take b r x y e h = rw e h

pub skip : {A : Type 0} (b : Bool) (r x y : A) → b ≡ false → r ≡ y → r ≡ (if b then x else y)
skip b r x y e h = rw e h

pub ruleset tests = (take, skip, eq-eqb, ne_eqb, lt-ltb, le-ltb, le-leb, lt-leb, bool_byte_lem, if_on, if_off)
