-- The text of the panel: the columns that the issue's panel for the service man names, in its order. To be believed: a place is a row
-- of 20 numbers, a flag is 1 if it is on and 0 if not, and `and` is the port's field `all`.
use Rattle.std.specs.Prelude.{ℕ, zero, suc, Result, Ok, Err, ◌+◌, ◌-◌, ◌*◌, Bool, true, ◌&&◌, List, [], ◌∷◌, ◌++◌, nat_le, if◌then◌else◌}
use Rattle.port.specs.declared.Port.{Port}
use Rattle.refusals.specs.declared.Refusal.{Refusal}
use Rattle.refusals.specs.declared.Refusal.TheVariants.{Size}
use Rattle.buffers.specs.Text.{ascii}
use Rattle.buffers.specs.Rows.{row_of}

-- the first line names the columns
abbrev pub columns : List ℕ
columns = ascii "columns place mode ready out input lines strobe vector select mask and high asked live waiting service awaiting matched levels driven\n"

abbrev pub flag_of : Bool → ℕ
flag_of on = if on then 1 else 0

-- the port at a place, with the levels and the driven lines that the driven-lines question gives there
abbrev pub row_of_place : ℕ → Port → ℕ → ℕ → List ℕ
row_of_place place p levels driven =
    place ∷ p.mode ∷ flag_of p.ready ∷ p.out ∷ p.input ∷ p.lines ∷ flag_of p.strobe ∷ p.vector ∷ p.select ∷ p.mask
    ∷ flag_of p.all ∷ flag_of p.high ∷ flag_of p.asked ∷ flag_of p.live ∷ flag_of p.waiting ∷ flag_of p.service
    ∷ p.awaiting ∷ flag_of p.matched ∷ levels ∷ driven ∷ []

-- what the panel says where there is no board of the size asked for
abbrev pub refused_of : ℕ → List ℕ
refused_of code = ascii "refused " ++ row_of (code ∷ [])

-- the size that the program's argument asks for: the number that its text is in decimal, and 0, which is no board's size, where the
-- text is no number or the number is above 4
abbrev pub digit : ℕ → Bool
digit d = nat_le 48 d && nat_le d 57

abbrev pub numeral : List ℕ → Bool
numeral [] = true
numeral (d ∷ ds) = digit d && numeral ds

-- the number whose digits are those of n and then ds
abbrev pub value_of : ℕ → List ℕ → ℕ
value_of n [] = n
value_of n (d ∷ ds) = value_of (10 * n + (d - 48)) ds

unfoldable pub size_from : List ℕ → ℕ
size_from text = if numeral text && nat_le (value_of 0 text) 4 then value_of 0 text else 0

-- that number as a size, or the refusal of a size that no board has
abbrev pub size_or_refusal : ℕ → Result ℕ Refusal
size_or_refusal zero = Err Size
size_or_refusal (suc n) = Ok (suc n)

-- and back
abbrev pub size_by : Result ℕ Refusal → ℕ
size_by (Ok n) = n
size_by (Err r) = 0
