-- What the demands read off the ports in their own words is what the chain's definitions say.
-- Assumes nothing.
use mathlib.Core.Path.{◌≡◌, refl}
use mathlib.Core.Bool.{◌&&◌}
use mathlib.Core.List.{List, [], ◌∷◌, map, reverse, reverse-cons}
use Prim.Native.Nat.{ℕ, suc}
use Rattle.bits.proofs.Logic.{by_cases}
use Rattle.port.specs.declared.Port.{Port}
use Rattle.chain.specs.Places.{first, places}
use Rattle.chain.specs.Chain.{ready, under}
use Rattle.demands.specs.Words.{serving, first_ready}
use Rattle.demands.proofs.Places.{map_snoc, reverse_map}

pub ready_is : (ps : List Port) → first_ready ps ≡ first (map ready ps)
ready_is [] = refl
ready_is (p ∷ ps) = by_cases (p.waiting && p.live) (λ e. rw e) (λ e. rw (e, ready_is ps))

-- the places under service, farthest first, by the chain's words
abbrev pub farthest : List Port → List ℕ
farthest ps = reverse (places (map under ps))

serving_suc : (place : ℕ) (ps : List Port) → serving (suc place) ps ≡ map suc (serving place ps)
serving_suc place [] = refl
serving_suc place (p ∷ ps) = by_cases p.service (λ e. rw (e, serving_suc (suc place) ps, map_snoc)) (λ e. rw (e, serving_suc (suc place) ps))

pub serving_is : (ps : List Port) → serving 0 ps ≡ farthest ps
serving_is [] = refl
serving_is (p ∷ ps) = by_cases p.service
    (λ e. rw (e, serving_suc 0 ps, serving_is ps, reverse-cons 0 (map suc (places (map under ps))), reverse_map))
    (λ e. rw (e, serving_suc 0 ps, serving_is ps, reverse_map))
