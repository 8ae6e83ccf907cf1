-- A file that is longer than its buffer is refused as by its own length. Assumes nothing.
use mathlib.Core.Path.{◌≡◌, refl, sym, ap, ◌∙◌}
use mathlib.Core.Bool.{Bool, true, false, not, false≢true}
use mathlib.Core.List.{List, [], ◌∷◌}
use Prim.Native.Nat.{ℕ, ◌+◌, ◌*◌, ◌/◌, ◌%◌, ◌≤◌, ◌<◌}
use native.Mathlib.Nat.{add-zero, zero-add, add_assoc}
use native.Mathlib.Omega.{arith}
use lib.Dec.{ltb}
use lib.ListN.{length}
use borrow.Author.Tests.{ne_eqb, lt-ltb, le-ltb, ltb-true, ltb-false}
use Rattle.bits.specs.Bits.{◌is◌}
use Rattle.bits.proofs.Logic.{by_cases}
use Rattle.bits.proofs.Tests.{if_off}
use Rattle.board.specs.declared.Board.{Board}
use Rattle.board.specs.Board.{sound_board, fresh_of}
use Rattle.board.specs.Step.{line, verdict}
use Rattle.recording.specs.Wave.{wave_text, refusal_of, wave_refusal, exported_of}
use Rattle.wave.specs.Text.{kept_of, next_from, count_of, total, wave_of, events_limit, stamps_limit, ReadInParts, ByOwnLength}

pub short : (limit n : ℕ) → n < limit → n ≡ kept_of limit n
unfolding kept_of
short limit n h = rw (lt-ltb n limit h)

pub long : (limit n : ℕ) → limit ≤ n → limit + n % 4 ≡ kept_of limit n
unfolding kept_of
long limit n h = rw (le-ltb n limit h)

pub behind : (limit n : ℕ) → n < limit → n ≡ next_from limit n
unfolding next_from
behind limit n h = rw (lt-ltb n limit h)

pub start : (limit n : ℕ) → limit ≤ n → 0 ≡ next_from limit n
unfolding next_from
start limit n h = rw (le-ltb n limit h)

-- ---- a file read in parts: what is counted is what its whole length counts as
kept_more : (limit n more : ℕ) → limit % 4 ≡ 0 → kept_of limit (kept_of limit n + more) ≡ kept_of limit (n + more)
kept_more limit n more whole =
    by_cases (ltb n limit)
    (λ z. rw (← short limit n (ltb-true n limit z)))
    (λ z.
    let h = ltb-false n limit z in
    rw (← long limit n h, ← long limit (limit + n % 4 + more) (omega arith), ← long limit (n + more) (omega arith)) (omega arith))

parts_more : (limit n : ℕ) (reads : List ℕ) → limit % 4 ≡ 0 → count_of limit (kept_of limit n) reads ≡ kept_of limit (n + total reads)
parts_more limit n [] whole = rw add-zero
parts_more limit n (more ∷ reads) whole = rw (kept_more limit n more whole, ← add_assoc) (parts_more limit (n + more) reads whole)

none_kept : (limit : ℕ) → 0 ≡ kept_of limit 0
none_kept limit = by_cases (ltb 0 limit) (λ z. short limit 0 (ltb-true 0 limit z)) (λ z. omega (arith, long limit 0 (ltb-false 0 limit z), ltb-false 0 limit z))

pub read_in_parts : ReadInParts
read_in_parts limit reads whole =
    ap (λ (n : ℕ). count_of limit n reads) (none_kept limit) ∙ parts_more limit 0 reads whole ∙ ap (kept_of limit) (zero-add (total reads))

-- ---- the export refuses what is left of a file that is too long as it refuses the file
-- where there are too many records, or the stamps are not theirs, the text's length does not matter
stops : (p q r s t s' t' : Bool) → (r ≡ false → (s ≡ true) × (s' ≡ true))
    → (verdict (line p 35 ∷ line q 32 ∷ line r 36 ∷ line s 41 ∷ line t 40 ∷ []) ≡ verdict (line p 35 ∷ line q 32 ∷ line r 36 ∷ line s' 41 ∷ line t' 40 ∷ []))
    × (verdict (line p 35 ∷ line q 32 ∷ line r 36 ∷ line s' 41 ∷ line t' 40 ∷ []) ≡ 0 → ⊥)
stops true q r s t s' t' h = (refl, λ z. omega arith)
stops false true r s t s' t' h = (refl, λ z. omega arith)
stops false false true s t s' t' h = (refl, λ z. omega arith)
stops false false false true t true t' h = (refl, λ z. omega arith)
stops false false false false t s' t' h = absurd (false≢true (h refl).0)
stops false false false true t false t' h = absurd (false≢true (h refl).1)

abbrev Refused : Bool → ℕ → ℕ → ℕ → ℕ → ℕ → Type 0
Refused sound events stamps text text' room =
    (refusal_of sound (kept_of events_limit events) (kept_of stamps_limit stamps) text' room ≡ refusal_of sound events stamps text room)
    × (refusal_of sound events stamps text room ≡ 0 → ⊥)

events_long : (sound : Bool) (events stamps text text' room : ℕ) → events_limit ≤ events → Refused sound events stamps text text' room
unfolding refusal_of
events_long sound events stamps text text' room h =
    let over : (65540 + events % 4) % 4 ≡ events % 4 = omega arith in
    rw (← long 65540 events h, over, lt-ltb 16384 ((65540 + events % 4) / 4) (omega arith), lt-ltb 16384 (events / 4) (omega arith))
    (stops (not sound) (not (events % 4 is 0)) true (not (kept_of 32772 stamps is 2 * ((65540 + events % 4) / 4))) (ltb room text') (not (stamps is 2 * (events / 4))) (ltb room text)
    (λ e. absurd (false≢true (sym e))))

stamps_long : (sound : Bool) (events stamps text text' room : ℕ) → events < events_limit → stamps_limit ≤ stamps → Refused sound events stamps text text' room
unfolding refusal_of
stamps_long sound events stamps text text' room few h =
    rw (← short 65540 events few, ← long 32772 stamps h, ne_eqb (32772 + stamps % 4) (2 * (events / 4)) (λ e. omega arith), ne_eqb stamps (2 * (events / 4)) (λ e. omega arith))
    (stops (not sound) (not (events % 4 is 0)) (ltb 16384 (events / 4)) true (ltb room text') true (ltb room text) (λ e. (refl, refl)))

-- so its code is the file's, and its length 0
same_wave : (size : ℕ) (events stamps events' stamps' : List ℕ) (room : ℕ)
    → ((b : Board) → (wave_refusal b events' stamps' room ≡ wave_refusal b events stamps room) × (wave_refusal b events stamps room ≡ 0 → ⊥))
    → wave_of size events' stamps' room ≡ wave_of size events stamps room
unfolding wave_of exported_of
same_wave size events stamps events' stamps' room h =
    let refused = h (fresh_of size).board in
    let code = ne_eqb (wave_refusal (fresh_of size).board events stamps room) 0 refused.1 in
    rw (refused.0, if_off (wave_refusal (fresh_of size).board events stamps room is 0) _ _ code, if_off (wave_refusal (fresh_of size).board events stamps room is 0) _ _ code)

pub by_own_length : ByOwnLength
by_own_length size events stamps events' stamps' room e s =
    by_cases (ltb (length events) events_limit)
    (λ z.
    let few = ltb-true (length events) events_limit z in
    by_cases (ltb (length stamps) stamps_limit)
    (λ y. rw (e.whole few, s.whole (ltb-true (length stamps) stamps_limit y)))
    (λ y.
    same_wave size events stamps events' stamps' room
    (λ b.
    rw (e.counted, s.counted)
    (stamps_long (sound_board b) (length events) (length stamps) (length (wave_text b events stamps)) (length (wave_text b events' stamps')) room few (ltb-false (length stamps) stamps_limit y)))))
    (λ z.
    same_wave size events stamps events' stamps' room
    (λ b.
    rw (e.counted, s.counted)
    (events_long (sound_board b) (length events) (length stamps) (length (wave_text b events stamps)) (length (wave_text b events' stamps')) room (ltb-false (length events) events_limit z))))
