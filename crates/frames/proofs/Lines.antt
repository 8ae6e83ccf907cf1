-- The nine values, chip by chip.
-- Assumes nothing.
use Rattle.std.proofs.Common.{◌≡◌, ℕ, zero, suc, not, ◌&&◌, ltb, List, [], ◌∷◌, length, get_or, refl, arith, lt-ltb}
use Rattle.bits.specs.Bits.{◌is◌}
use Rattle.chip.specs.declared.Chip.{Chip}
use Rattle.frames.specs.Values.{flag, values_of}

four : (size : ℕ) (request : ℕ) (c d e f : Chip) → values_of size (c ∷ d ∷ e ∷ f ∷ []) request
    ≡ (flag (not (request is 0)) ∷ flag (ltb 0 size && c.a.ready) ∷ flag (ltb 0 size && c.b.ready) ∷ flag (ltb 1 size && d.a.ready) ∷ flag (ltb 1 size && d.b.ready) ∷ flag (ltb 2 size && e.a.ready) ∷ flag (ltb 2 size && e.b.ready) ∷ flag (ltb 3 size && f.a.ready) ∷ flag (ltb 3 size && f.b.ready) ∷ [])
unfolding values_of
four zero request c d e f = refl
four (suc zero) request c d e f = refl
four (suc (suc zero)) request c d e f = refl
four (suc (suc (suc zero))) request c d e f = refl
four (suc (suc (suc (suc size)))) request c d e f =
    let n = suc (suc (suc (suc size))) in
    simp (lt-ltb 0 n (omega arith), lt-ltb 1 n (omega arith), lt-ltb 2 n (omega arith), lt-ltb 3 n (omega arith))

pub by_chips : (size : ℕ) (chips : List Chip) (request : ℕ) (blank : Chip) → length chips ≡ 4 → values_of size chips request
    ≡ (flag (not (request is 0)) ∷ flag (ltb 0 size && (get_or chips 0 blank).a.ready) ∷ flag (ltb 0 size && (get_or chips 0 blank).b.ready) ∷ flag (ltb 1 size && (get_or chips 1 blank).a.ready) ∷ flag (ltb 1 size && (get_or chips 1 blank).b.ready) ∷ flag (ltb 2 size && (get_or chips 2 blank).a.ready) ∷ flag (ltb 2 size && (get_or chips 2 blank).b.ready) ∷ flag (ltb 3 size && (get_or chips 3 blank).a.ready) ∷ flag (ltb 3 size && (get_or chips 3 blank).b.ready) ∷ [])
by_chips size [] request blank h = absurd (omega (arith, h))
by_chips size (c ∷ []) request blank h = absurd (omega (arith, h))
by_chips size (c ∷ d ∷ []) request blank h = absurd (omega (arith, h))
by_chips size (c ∷ d ∷ e ∷ []) request blank h = absurd (omega (arith, h))
by_chips size (c ∷ d ∷ e ∷ f ∷ []) request blank h = four size request c d e f
by_chips size (c ∷ d ∷ e ∷ f ∷ g ∷ l) request blank h = absurd (omega (arith, h))
