-- What the code computes on whole bytes is what the definitions say line by line.
-- Assumes nothing.
use Rattle.std.specs.Prelude.{if◌then◌else◌}
use mathlib.Core.Path.{◌≡◌, refl, ap, ap₂, ◌∙◌}
use mathlib.Core.Bool.{Bool, true, false, ◌&&◌, ◌||◌, not, beq}
use Prim.Native.Nat.{ℕ, zero, suc, ◌-◌, ◌<◌}
use native.Mathlib.Omega.{arith}
use lib.Dec.{eqb}
use borrow.Author.Tests.{ne_eqb}
use lib.Bits.{bit_and, bit_or, and_le_l, or_lt}
use Rattle.bits.specs.Bits.{bit, some, every}
use Rattle.bits.specs.Lines.{counts, active, active_of, match_of, mixed_of, levels_of}
use Rattle.bits.proofs.BitLaws.{some_ext, every_ext, bit_and_lem, bit_or_lem, bit_not, not_zero, and_some, and_none, byte_of}

beq_true : (b : Bool) → b ≡ beq b true
beq_true true = refl
beq_true false = refl

beq_false : (b : Bool) → not b ≡ beq b false
beq_false true = refl
beq_false false = refl

not_and_not : (a b : Bool) → not (a && not b) ≡ (not a || b)
not_and_not true true = refl
not_and_not true false = refl
not_and_not false b = refl

-- bit k of `select & !mask` is 1 where line k counts
counting : (select mask : ℕ) → mask < 256 → (k : ℕ) → k < 8 → bit k (bit_and select (255 - mask)) ≡ counts select mask k
counting select mask hm k hk = bit_and_lem k select (255 - mask) ∙ ap (λ (b : Bool). bit k select && b) (bit_not k mask hk hm)

-- bit k of the levels is 1 where line k is active
at_active : (lines : ℕ) (high : Bool) → lines < 256 → (k : ℕ) → k < 8 → bit k (active_of lines high) ≡ active lines high k
at_active lines true hl k hk = beq_true (bit k lines)
at_active lines false hl k hk = bit_not k lines hk hl ∙ beq_false (bit k lines)

active_fit : (lines : ℕ) (high : Bool) → lines < 256 → active_of lines high < 256
active_fit lines true h = h
active_fit lines false h = omega arith

-- the three tests of the code
module _ (select mask : ℕ) (hs : select < 256) (hm : mask < 256) where
  fits : bit_and select (255 - mask) < 256
  fits = omega (arith, and_le_l select (255 - mask))

  some_count : not (eqb (bit_and select (255 - mask)) 0) ≡ some 8 (counts select mask)
  some_count = not_zero (bit_and select (255 - mask)) fits ∙ some_ext 8 _ _ (counting select mask hm)

  module _ (lines : ℕ) (high : Bool) (hl : lines < 256) where
    some_on : not (eqb (bit_and (bit_and select (255 - mask)) (active_of lines high)) 0) ≡ some 8 (λ k. counts select mask k && active lines high k)
    some_on =
        and_some (bit_and select (255 - mask)) (active_of lines high) fits
        ∙ some_ext 8 _ _ (λ k l. ap₂ ◌&&◌ (counting select mask hm k l) (at_active lines high hl k l))

    none_off : eqb (bit_and (bit_and select (255 - mask)) (255 - active_of lines high)) 0 ≡ every 8 (λ k. not (counts select mask k) || active lines high k)
    none_off =
        and_none (bit_and select (255 - mask)) (255 - active_of lines high) fits
        ∙ every_ext 8 _ _ (λ k l.
        ap not (ap₂ ◌&&◌ (counting select mask hm k l) (bit_not k (active_of lines high) l (active_fit lines high hl) ∙ ap not (at_active lines high hl k l)))
        ∙ not_and_not (counts select mask k) (active lines high k))

-- OR and AND by the tests
by_or :
    (select mask lines on : ℕ) (high all : Bool) → all ≡ false → on ≡ active_of lines high → select < 256 → mask < 256 → lines < 256 →
    not (eqb (bit_and (bit_and select (255 - mask)) on) 0) ≡ match_of select mask lines high all
unfolding match_of
by_or select mask lines on high all a e hs hm hl = rw (a, e) (some_on select mask hs hm lines high hl)

by_and :
    (select mask lines on : ℕ) (high all : Bool) → all ≡ true → on ≡ active_of lines high → select < 256 → mask < 256 → lines < 256 →
    (not (eqb (bit_and select (255 - mask)) 0) && eqb (bit_and (bit_and select (255 - mask)) (255 - on)) 0) ≡ match_of select mask lines high all
unfolding match_of
by_and select mask lines on high all a e hs hm hl = rw (a, e) (ap₂ ◌&&◌ (some_count select mask hs hm) (none_off select mask hs hm lines high hl))

-- `matches` asks one question for both: is a watched line active (OR), or inactive (AND)? OR of no line is no match without being asked
double : (b : Bool) → not (beq b false) ≡ b
double true = refl
double false = refl

turned : (b : Bool) → not (beq (not b) true) ≡ b
turned true = refl
turned false = refl

some_watched : (w on : ℕ) → (not (eqb w 0) && not (beq (not (eqb (bit_and w on) 0)) false)) ≡ not (eqb (bit_and w on) 0)
some_watched zero on = refl
some_watched (suc w) on =
    let full : eqb (suc w) 0 ≡ false = ne_eqb (suc w) 0 (omega arith) in
    rw full (double (not (eqb (bit_and (suc w) on) 0)))

at_or : (lines : ℕ) (high : Bool) → active_of lines (not (beq high false)) ≡ active_of lines high
at_or lines true = refl
at_or lines false = refl

at_and : (lines : ℕ) (high : Bool) → lines < 256 → active_of lines (not (beq high true)) ≡ 255 - active_of lines high
at_and lines true h = refl
at_and lines false h = omega arith

pub by_both :
    (select mask lines seen : ℕ) (high all : Bool) → seen ≡ active_of lines (not (beq high all)) → select < 256 → mask < 256 → lines < 256 →
    (not (eqb (bit_and select (255 - mask)) 0) && not (beq (not (eqb (bit_and (bit_and select (255 - mask)) seen) 0)) all)) ≡ match_of select mask lines high all
by_both select mask lines seen high false e hs hm hl =
    rw (e, at_or lines high)
    (some_watched (bit_and select (255 - mask)) (active_of lines high) ∙ by_or select mask lines (active_of lines high) high false refl refl hs hm hl)
by_both select mask lines seen high true e hs hm hl =
    rw (e, at_and lines high hl, turned (eqb (bit_and (bit_and select (255 - mask)) (255 - active_of lines high)) 0))
    (by_and select mask lines (active_of lines high) high true refl refl hs hm hl)

-- `select & lines | out & !select`, bit by bit
chosen : (s l o : Bool) → ((s && l) || (o && not s)) ≡ (if s then l else o)
chosen true true true = refl
chosen true true false = refl
chosen true false true = refl
chosen true false false = refl
chosen false l true = refl
chosen false l false = refl

pub mixing : (select lines out : ℕ) → select < 256 → lines < 256 → out < 256 → bit_or (bit_and select lines) (bit_and out (255 - select)) ≡ mixed_of select lines out
unfolding mixed_of
mixing select lines out hs hl ho =
    byte_of _ _ (or_lt 8 (bit_and select lines) (bit_and out (255 - select)) (omega (arith, and_le_l select lines)) (omega (arith, and_le_l out (255 - select))))
    (λ k l. bit_or_lem k (bit_and select lines) (bit_and out (255 - select))
    ∙ ap₂ ◌||◌ (bit_and_lem k select lines) (bit_and_lem k out (255 - select) ∙ ap (λ (b : Bool). bit k out && b) (bit_not k select l hs))
    ∙ chosen (bit k select) (bit k lines) (bit k out))

-- `out & driven`, bit by bit
pub driving : (out driven : ℕ) → out < 256 → bit_and out driven ≡ levels_of out driven
unfolding levels_of
driving out driven ho = byte_of _ _ (omega (arith, and_le_l out driven)) (λ k l. bit_and_lem k out driven)
