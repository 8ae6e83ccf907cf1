-- No fault is every merit: what `rest::sound` computes is soundness.
-- Assumes nothing.
use mathlib.Core.Path.{◌≡◌, refl}
use mathlib.Core.Bool.{Bool, true, false, ◌&&◌, ◌||◌, not, beq}
use Prim.Native.Nat.{◌%◌}
use lib.Dec.{ltb}
use Rattle.bits.specs.Bits.{◌is◌}
use Rattle.port.specs.Rules.{match_now}
use Rattle.port.specs.Sound.{sound_of}
use Rattle.port.specs.declared.Port.{Port}

-- ---- Bool's own laws
not_or : (a b : Bool) → not (a || b) ≡ (not a && not b)
not_or true b = refl
not_or false b = refl

not_and : (a b : Bool) → not (a && b) ≡ (not a || not b)
not_and true b = refl
not_and false b = refl

twice : (a : Bool) → not (not a) ≡ a
twice true = refl
twice false = refl

-- into the order of the definition: `q` the registers, `f` the input register, `k` the match, `w` what is awaited
order : (q f k w : Bool) → (q && f && k && w) ≡ (q && w && (k && f))
order false f k w = refl
order true true true true = refl
order true true true false = refl
order true true false true = refl
order true true false false = refl
order true false true true = refl
order true false true false = refl
order true false false true = refl
order true false false false = refl

-- ---- no fault: `x` is mode 2 on B
abbrev fault : Bool → Bool → Bool → Bool → Bool → Bool → Bool → Bool → Bool
fault m x v l s f i k = not m || x || not v || (l && not s) || (f && not i) || not k

merits : (m x v l s f i k w : Bool) → not (fault m x v l s f i k || w) ≡ (m && not x && v && (not l || s) && not w && (k && (not f || i)))
merits m x v l s f i k w = simp (not_or, not_and, twice) (order (m && not x && v && (not l || s)) (not f || i) k (not w))

-- what is awaited
awaits : (a b c l z : Bool) → not (not a || (b && not c) || (l && z)) ≡ (a && (not b || c) && not (l && z))
awaits a b c l z = simp (not_or, not_and, twice)

module _ (on_b follows watched m : Bool) (p : Port) (e : m ≡ match_now p) where
  abbrev faults : Bool
  faults =
      fault (ltb p.mode 4) (on_b && (p.mode is 2)) (p.vector % 2 is 0) p.live p.asked follows (p.input is p.lines)
      (beq p.matched (m && watched))

  pub faultless : not (faults || (not (ltb p.awaiting 3) || ((p.awaiting is 1) && not (p.mode is 3)) || (p.live && (p.awaiting is 2)))) ≡ sound_of on_b follows watched p
  faultless =
      rw (← e, ← awaits (ltb p.awaiting 3) (p.awaiting is 1) (p.mode is 3) p.live (p.awaiting is 2))
      (merits (ltb p.mode 4) (on_b && (p.mode is 2)) (p.vector % 2 is 0) p.live p.asked follows (p.input is p.lines)
      (beq p.matched (m && watched))
      (not (ltb p.awaiting 3) || ((p.awaiting is 1) && not (p.mode is 3)) || (p.live && (p.awaiting is 2))))
