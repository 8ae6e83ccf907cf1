-- Settling one port: it brings any port to rest, and leaves a port at rest as it is.
-- Assumes nothing.
use Rattle.std.specs.Prelude.{if◌then◌else◌}
use mathlib.Core.Path.{◌≡◌, refl, sym}
use mathlib.Core.Bool.{Bool, true, false, ◌&&◌, ◌||◌, not, beq}
use Prim.Native.Nat.{ℕ}
use borrow.Author.Tests.{eq-eqb, eqb-true}
use Rattle.bits.specs.Bits.{◌is◌}
use Rattle.port.specs.Fields.{input_at, waiting_at, matched_at}
use Rattle.port.specs.Rules.{match_now, settled}
use Rattle.port.specs.Sound.{rests_of}
use Rattle.port.specs.declared.Port.{Port}
use Rattle.bits.proofs.Logic.{both, join, beq_is, beq_self}

follows_lines : (f : Bool) (x y : ℕ) → (not f || ((if f then x else y) is x)) ≡ true
follows_lines true x y = eq-eqb x x refl
follows_lines false x y = refl

pub settled_rests : (f w : Bool) (p : Port) → rests_of f w (settled f w p) ≡ true
unfolding match_now
settled_rests f w p =
    join (beq (match_now p && w) (match_now p && w)) (not f || ((if f then p.lines else p.input) is p.lines))
    (beq_self (match_now p && w)) (follows_lines f p.lines p.input)

same_input : (f : Bool) (x y : ℕ) → (not f || (y is x)) ≡ true → (if f then x else y) ≡ y
same_input true x y e = sym (eqb-true y x e)
same_input false x y e = refl

no_edge : (w m : Bool) → (w || (m && not m)) ≡ w
no_edge true m = refl
no_edge false true = refl
no_edge false false = refl

-- the three fields that settling may change
put_back : (p : Port) (i : ℕ) (w m : Bool) → i ≡ p.input → w ≡ p.waiting → m ≡ p.matched → input_at i (waiting_at w (matched_at m p)) ≡ p
put_back p i w m e f g = rw (e, f, g)

pub rests_settled : (f w : Bool) (p : Port) → rests_of f w p ≡ true → settled f w p ≡ p
rests_settled f w p e =
    let r = both (beq p.matched (match_now p && w)) (not f || (p.input is p.lines)) e in
    let m = beq_is p.matched (match_now p && w) r.0 in
    put_back p (if f then p.lines else p.input) (p.waiting || (match_now p && w && not p.matched)) (match_now p && w)
    (same_input f p.lines p.input r.1) (rw (← m) (no_edge p.waiting p.matched)) (sym m)
