-- Who asks, by the nearest ready port and the nearest port under service, and the bits that each event leaves under service.
-- Assumes nothing.
use Rattle.std.specs.Prelude.{if◌then◌else◌}
use mathlib.Core.Path.{◌≡◌, refl, sym, ◌∙◌}
use mathlib.Core.Bool.{Bool, true, false, ◌&&◌, not}
use mathlib.Core.List.{List, [], ◌∷◌, ◌++◌, map, drop_last}
use Prim.Native.Nat.{ℕ, suc, ◌≤◌, ◌<◌}
use native.Mathlib.Omega.{arith}
use lib.Dec.{ltb, leb-suc-suc, leb-zero}
use lib.ListN.{length, length-map, set}
use borrow.Author.Tests.{ltb-true, lt-ltb, le-ltb}
use Rattle.bits.proofs.Logic.{by_cases}
use Rattle.port.specs.Rules.{served, released}
use Rattle.port.specs.declared.Port.{Port}
use Rattle.chain.specs.Places.{first, adjust}
use Rattle.chain.specs.Chain.{ready, under, asking, asker, asks, holder}
use Rattle.chain.proofs.Places.{adjust_beyond}
use Rattle.demands.proofs.Same.{farthest}
use Rattle.demands.proofs.Places.{first_set, first_clear, first_short, farthest_set, farthest_clear, bits_set}

-- behind a port under service nobody asks
shut_off : (ps : List Port) → first (asking false ps) ≡ length ps
shut_off [] = refl
shut_off (p ∷ ps) = go (ready p) (shut_off ps)
  where
    go : (r : Bool) → first (asking false ps) ≡ length ps → first ((r && false) ∷ asking false ps) ≡ suc (length ps)
    go true e = rw e
    go false e = rw e

-- the nearest ready port asks if it is nearer than all under service; otherwise nobody does
pub asker_is : (ps : List Port) → asker ps ≡ (if ltb (first (map ready ps)) (first (map under ps)) then first (map ready ps) else length ps)
asker_is [] = refl
asker_is (p ∷ ps) = go (under p) (ready p) (asker_is ps)
  where
    up : (t : Bool) (k n : ℕ) → suc (if t then k else n) ≡ (if t then suc k else suc n)
    up true k n = refl
    up false k n = refl

    go : (u r : Bool) → asker ps ≡ (if ltb (first (map ready ps)) (first (map under ps)) then first (map ready ps) else length ps)
        → first ((r && (true && not u)) ∷ asking (true && not u) ps)
        ≡ (if ltb (first (r ∷ map ready ps)) (first (u ∷ map under ps)) then first (r ∷ map ready ps) else suc (length ps))
    go true true h = rw (shut_off ps)
    go true false h = rw (shut_off ps, le-ltb (suc (first (map ready ps))) 0 (omega arith))
    go false true h = rw (leb-suc-suc 0 (first (map under ps)), leb-zero)
    go false false h = rw (leb-suc-suc, h) (up (ltb (first (map ready ps)) (first (map under ps))) (first (map ready ps)) (length ps))

pub asks_is : (ps : List Port) → asks ps ≡ ltb (first (map ready ps)) (first (map under ps))
asks_is ps = rw (asker_is ps) (go (first (map ready ps)) (first (map under ps)) (length ps) (rw length-map at (first_short (map under ps))))
  where
    go : (r u n : ℕ) → u ≤ n → ltb (if ltb r u then r else n) n ≡ ltb r u
    go r u n h = by_cases (ltb r u) (λ e. rw e (lt-ltb r n (omega (arith, ltb-true r u e)))) (λ e. rw e (le-ltb n n (omega arith)))

pub asks_yes : (ps : List Port) → asks ps ≡ true → (asker ps ≡ first (map ready ps)) × (first (map ready ps) < first (map under ps))
asks_yes ps h = let e = sym (asks_is ps) ∙ h in (asker_is ps ∙ rw e, ltb-true (first (map ready ps)) (first (map under ps)) e)

pub asks_no : (ps : List Port) → asks ps ≡ false → asker ps ≡ length ps
asks_no ps h = let e = sym (asks_is ps) ∙ h in asker_is ps ∙ rw e

-- ---- the places under service, farthest first, after an acknowledge and after a RETI
pub farthest_served : (ps : List Port) → farthest (adjust served (asker ps) ps) ≡ (if asks ps then farthest ps ++ (asker ps ∷ []) else farthest ps)
farthest_served ps = by_cases (asks ps)
    (λ e. rw (e, (asks_yes ps e).0, bits_set under served true (λ p. refl)) (farthest_set (map under ps) (first (map ready ps)) (asks_yes ps e).1))
    (λ e. rw (e, asks_no ps e, adjust_beyond))

pub farthest_released : (ps : List Port) → farthest (adjust released (holder ps) ps) ≡ drop_last (farthest ps)
farthest_released ps = rw (bits_set under released false (λ p. refl)) (farthest_clear (map under ps))

-- ---- after an acknowledge nobody asks: the port that answered is under service, and no nearer one is ready
pub quiet : (ps : List Port) → asks (adjust served (asker ps) ps) ≡ false
quiet ps = by_cases (asks ps)
    (λ e. rw (asks_is (adjust served (asker ps) ps), (asks_yes ps e).0, bits_set ready served false (λ p. refl), bits_set under served true (λ p. refl))
    (rw (first_set (map under ps) (first (map ready ps)) (asks_yes ps e).1) (le-ltb (first (set (map ready ps) (first (map ready ps)) false)) (first (map ready ps)) (first_clear (map ready ps)))))
    (λ e. rw (asks_no ps e, adjust_beyond) e)
