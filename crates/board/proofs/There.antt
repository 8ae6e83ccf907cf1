-- The chips that are there, after a change of them; the others stay.
-- Assumes nothing.
use Rattle.std.specs.Prelude.{if◌then◌else◌}
use mathlib.Core.Path.{◌≡◌, refl, sym, ap, ◌∙◌}
use mathlib.Core.Bool.{Bool, true, false}
use mathlib.Core.List.{List, [], ◌∷◌, ◌++◌}
use Prim.Native.Nat.{ℕ, zero, suc, ◌/◌, ◌<◌}
use native.Mathlib.Nat.{not-suc-le-zero, le_of_suc-le-suc}
use native.Mathlib.Omega.{arith}
use lib.ListN.{length, length-map, take, drop, take-append-drop, set, get_or}
use Rattle.port.specs.Rules.{served, released}
use Rattle.chip.specs.declared.Chip.{Chip}
use Rattle.chip.specs.Chip.{settle, on}
use Rattle.chip.specs.Chip as chip
use Rattle.events.specs.Events.{changed}
use Rattle.chain.specs.declared.Decoder.{Decoder}
use Rattle.chain.specs.Places.{adjust}
use Rattle.chain.specs.Chain.{flat, asker, holder, side_of, acknowledged, retired}
use Rattle.chain.specs.Decode.{reti_of}
use Rattle.chain.proofs.Places.{adjust_length}
use Rattle.board.specs.declared.Board.{Board}
use Rattle.board.specs.declared.Doing.{Doing}
use Rattle.board.specs.declared.Doing.TheVariants.{Reset, Fetch, Acknowledge, At}
use Rattle.board.specs.Board.{there, within}
use Rattle.board.specs.Step.{change, after, taken}

pub take_within : (n : ℕ) (xs cs : List Chip) → length xs ≡ length (take n cs) → take n (xs ++ drop n cs) ≡ xs
take_within zero [] cs h = refl
take_within zero (x ∷ xs) cs h = absurd (omega (arith, h))
take_within (suc n) [] [] h = refl
take_within (suc n) (x ∷ xs) [] h = absurd (omega (arith, h))
take_within (suc n) [] (c ∷ cs) h = absurd (omega (arith, h))
take_within (suc n) (x ∷ xs) (c ∷ cs) h = ap (λ (l : List Chip). x ∷ l) (take_within n xs cs (omega (arith, h)))

-- ---- no event changes the number of chips
choice_length : (t : Bool) (x y : List Chip) → length x ≡ length y → length (if t then x else y) ≡ length y
choice_length true x y e = e
choice_length false x y e = refl

change_length : (d : Decoder) (e : Doing) (cs : List Chip) → length (change d e cs) ≡ length cs
unfolding acknowledged retired
change_length d Reset cs = length-map cs chip.reset
change_length d (Fetch byte) cs =
    length-map (if reti_of d byte then retired cs else cs) chip.fetch
    ∙ choice_length (reti_of d byte) (retired cs) cs (adjust_length (on (side_of (holder (flat cs))) released) (holder (flat cs) / 2) cs)
change_length d Acknowledge cs = adjust_length (on (side_of (asker (flat cs))) served) (asker (flat cs) / 2) cs
change_length d (At place e) cs = adjust_length (changed (side_of place) e) (place / 2) cs

pub after_length : (d : Decoder) (e : Doing) (cs : List Chip) → length (after d e cs) ≡ length cs
after_length d e cs = length-map (change d e cs) settle ∙ change_length d e cs

pub there_taken : (b : Board) (e : Doing) → there (taken b e) ≡ after b.decoder e (there b)
unfolding taken
there_taken b e = take_within b.size (after b.decoder e (there b)) b.chips (after_length b.decoder e (there b))

-- the others stay
pub drop_within : (n : ℕ) (xs cs : List Chip) → length xs ≡ length (take n cs) → drop n (xs ++ drop n cs) ≡ drop n cs
drop_within zero [] cs h = refl
drop_within zero (x ∷ xs) cs h = absurd (omega (arith, h))
drop_within (suc n) [] [] h = refl
drop_within (suc n) (x ∷ xs) [] h = absurd (omega (arith, h))
drop_within (suc n) [] (c ∷ cs) h = absurd (omega (arith, h))
drop_within (suc n) (x ∷ xs) (c ∷ cs) h = drop_within n xs cs (omega (arith, h))

-- ---- what code does to the array of chips: one chip stored
pub within_set : (f : Chip → Chip) (d : Chip) (n k : ℕ) (cs : List Chip) → k < n → set cs k (f (get_or cs k d)) ≡ within n (adjust f k) cs
within_set f d zero k cs h = absurd (not-suc-le-zero h)
within_set f d (suc n) k [] h = refl
within_set f d (suc n) zero (c ∷ cs) h = ap (λ (l : List Chip). f c ∷ l) (sym (take-append-drop n cs))
within_set f d (suc n) (suc k) (c ∷ cs) h = ap (λ (l : List Chip). c ∷ l) (within_set f d n k cs (le_of_suc-le-suc h))
