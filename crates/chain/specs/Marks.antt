-- What the chain needs to know of one chip, as a number, so that who asks and who is released need no look at every port. Nothing here
-- need be believed: the laws in proofs/Marks.antt say that the answers are those of Chain.antt.
-- Assumes nothing.
use Rattle.std.specs.Prelude.{ℕ, zero, suc, ◌+◌, ◌*◌, ◌/◌, ◌%◌, ◌&&◌, not, Option, Some, None, List, [], ◌∷◌, ltb, length, get_or, set, replicate, if◌then◌else◌}
use Rattle.bits.specs.Bits.{◌is◌}
use Rattle.chip.specs.declared.Chip.{Chip}
use Rattle.chain.specs.Chain.{most, ready, under}

-- what an asker behind the chip meets in it: 0 nothing; 1 A asks; 2 B asks; 3 a port under service that shuts out the rest
abbrev pub met_of : Chip → ℕ
met_of c =
    if under c.a then 3 else
    if ready c.a then 1 else
    if under c.b then 3 else
    if ready c.b then 2 else
    0

-- the chip's nearest port under service: 0 none, 1 A, 2 B
abbrev pub held_of : Chip → ℕ
held_of c =
    if under c.a then 1 else
    if under c.b then 2 else
    0

unfoldable pub mark_of : Chip → ℕ
mark_of c = met_of c + 4 * held_of c

-- what is kept of the chips: a mark for each that a chain can have
abbrev pub Marks : Type 0
Marks = List ℕ

abbrev pub unmarked_of : Marks
unmarked_of = replicate most 0

-- the chip k is now c
abbrev pub marked_of : Marks → ℕ → Chip → Marks
marked_of marks k c = set marks k (mark_of c)

-- the marks of the first n chips of a row, 0 for the others
abbrev pub marks_of : ℕ → List Chip → Marks
marks_of n [] = []
marks_of zero (c ∷ cs) = 0 ∷ marks_of zero cs
marks_of (suc n) (c ∷ cs) = mark_of c ∷ marks_of n cs

-- one chip farther: two places more
abbrev pub up : ℕ → ℕ
up zero = zero
up (suc n) = suc (suc (suc n))

-- the place of the nearest asking port and 1, or 0 if none asks
unfoldable pub caller_of : Marks → ℕ
caller_of [] = 0
caller_of (m ∷ ms) = if m % 4 is 0 then up (caller_of ms) else if m % 4 is 3 then 0 else m % 4

-- the place of the nearest port under service and 1, or 0 if none is
unfoldable pub holder_of : Marks → ℕ
holder_of [] = 0
holder_of (m ∷ ms) = if m / 4 % 4 is 0 then up (holder_of ms) else m / 4 % 4

-- the same of a place or none
abbrev pub held_by : Option ℕ → ℕ
held_by None = 0
held_by (Some place) = place + 1

-- who asks where the chip k is now c and `request` asked before: searched for only where the chip's mark changes
unfoldable pub renewed_of : Marks → ℕ → Chip → ℕ → ℕ
renewed_of marks k c request = if ltb k (length marks) && not (get_or marks k 0 is mark_of c) then caller_of (marked_of marks k c) else request
