-- The wrapping difference of two neighbouring stamps, by their bytes.
-- Assumes nothing.
use Rattle.std.proofs.Common.{◌≡◌, ℕ, ◌+◌, ◌*◌, ◌/◌, ◌<◌, ◌≤◌, List, [], ◌∷◌, length, get_or, drop, refl, add-zero, arith, length-drop, get_or-drop, drop-drop}
use Rattle.frames.specs.Stamps.{stamps_of, stamp_at, gap_of, gap_in, gap_from}

two : (l : List ℕ) → 4 ≤ length l → gap_in (stamps_of l) ≡ gap_of (get_or l 0 0 + 256 * get_or l 1 0) (get_or l 2 0 + 256 * get_or l 3 0)
unfolding stamps_of gap_in
two [] h = absurd (omega (arith, h))
two (a ∷ []) h = absurd (omega (arith, h))
two (a ∷ b ∷ []) h = absurd (omega (arith, h))
two (a ∷ b ∷ c ∷ []) h = absurd (omega (arith, h))
two (a ∷ b ∷ c ∷ d ∷ l) h = refl

one : (l : List ℕ) → length l < 4 → gap_in (stamps_of l) ≡ 65536
unfolding stamps_of gap_in
one [] h = refl
one (a ∷ []) h = refl
one (a ∷ b ∷ []) h = refl
one (a ∷ b ∷ c ∷ []) h = refl
one (a ∷ b ∷ c ∷ d ∷ l) h = absurd (omega (arith, h))

-- between two records
pub gap_between : (bytes : List ℕ) (i : ℕ) → 2 * i + 4 ≤ length bytes → gap_from bytes i ≡ gap_of (stamp_at bytes i) (stamp_at bytes (i + 1))
gap_between bytes i h =
    let e : 2 * i + 2 ≡ 2 * (i + 1) = omega arith in
    let f : 2 * i + 3 ≡ 2 * (i + 1) + 1 = omega arith in
    rw (two (drop (2 * i) bytes) (omega (arith, length-drop (2 * i) bytes)), get_or-drop, get_or-drop, get_or-drop, get_or-drop, add-zero, e, f)

-- behind the last record
pub gap_behind : (bytes : List ℕ) (i : ℕ) → length bytes < 2 * i + 4 → gap_from bytes i ≡ 65536
gap_behind bytes i h = one (drop (2 * i) bytes) (omega (arith, length-drop (2 * i) bytes))

-- ---- the stamps from record i on
stamp_first : (bytes : List ℕ) → 2 ≤ length bytes → stamps_of bytes ≡ (get_or bytes 0 0 + 256 * get_or bytes 1 0) ∷ stamps_of (drop 2 bytes)
unfolding stamps_of
stamp_first [] h = absurd (omega (arith, h))
stamp_first (low ∷ []) h = absurd (omega (arith, h))
stamp_first (low ∷ high ∷ rest) h = refl

pub stamps_next : (bytes : List ℕ) (i : ℕ) → 2 * i + 2 ≤ length bytes
    → stamps_of (drop (2 * i) bytes) ≡ (get_or (drop (2 * i) bytes) 0 0 + 256 * get_or (drop (2 * i) bytes) 1 0) ∷ stamps_of (drop (2 * (i + 1)) bytes)
stamps_next bytes i h =
    let e : 2 * i + 2 ≡ 2 * (i + 1) = omega arith in
    rw (← e, ← drop-drop 2 (2 * i) bytes) (stamp_first (drop (2 * i) bytes) (omega (arith, length-drop (2 * i) bytes)))

pub stamps_length : (bytes : List ℕ) → length (stamps_of bytes) ≡ length bytes / 2
unfolding stamps_of
stamps_length [] = refl
stamps_length (low ∷ []) = refl
stamps_length (low ∷ high ∷ rest) = omega (arith, stamps_length rest)
