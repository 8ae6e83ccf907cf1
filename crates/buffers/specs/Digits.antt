-- A number in decimal as text: leading digit first, no leading zeros. To be believed: a number below 10 is its digit, 48 being the code of 0,
-- and any other has the digits of n / 10 and then the digit n % 10.
use Rattle.std.specs.Prelude.{List, [], ◌∷◌, ◌++◌, ℕ, zero, suc, ◌+◌, ◌/◌, ◌%◌, ltb, if◌then◌else◌}

-- the last `depth` digits of n, which are all of them for any depth above n
unfoldable pub digits_up : ℕ → ℕ → List ℕ
digits_up zero n = []
digits_up (suc depth) n = let more = digits_up depth (n / 10) ++ ((48 + n % 10) ∷ []) in if ltb n 10 then (48 + n) ∷ [] else more

-- the digits of n
unfoldable pub digits_of : ℕ → List ℕ
digits_of n = digits_up (suc n) n
