-- The laws of `splice`, `if_room` and `Wrote`: what a writer's proof cites, and its callers', whatever is written. Assumes nothing.
use mathlib.Core.Path.{◌≡◌, refl, sym, ap, ◌∙◌}
use mathlib.Core.List.{List, [], ◌∷◌, ◌++◌, append_assoc, append-nil}
use Prim.Native.Nat.{ℕ, ◌+◌, ◌-◌, ◌≤◌, ◌<◌}
use native.Mathlib.Nat.{add-zero, add_assoc}
use native.Mathlib.Omega.{arith}
use lib.ListN.{length, get_or, take, drop, set, length-append, length-drop, take-append-drop}
use lib.Seq.{length-take-le, take_at, drop-append-add, drop-append-le, take-take, take-add, drop-drop, sets, sets-eq}
use borrow.Author.Tests.{le-leb, lt-leb}
use borrow.Rule.Slice.PartMut.{put_mid}
use Rattle.buffers.specs.Splice.{splice, if_room, Wrote}

-- ---- splice

-- an empty block changes nothing
pub splice_none : (old : List ℕ) (at : ℕ) → splice old at [] ≡ old
unfolding splice
splice_none old at = simp (add-zero, append-nil, take-append-drop)

-- how much stands before the block's end
head_length : (old : List ℕ) (at : ℕ) (b : List ℕ) → at ≤ length old → length (take at old ++ b) ≡ at + length b
head_length old at b h = length-append (take at old) b ∙ ap (λ (n : ℕ). n + length b) (length-take-le at old h)

-- the buffer keeps its length
pub length_splice : (old : List ℕ) (at : ℕ) (b : List ℕ) → at + length b ≤ length old → length (splice old at b) ≡ length old
unfolding splice
length_splice old at b h =
    length-append (take at old ++ b) (drop (at + length b) old)
    ∙ omega (arith, head_length old at b (omega arith), length-drop (at + length b) old)

drop_past : (p q : List ℕ) (n m : ℕ) → length p ≡ n → drop (n + m) (p ++ q) ≡ drop m q
drop_past p q n m e = rw (← e) (drop-append-add p q m)

-- a second block right behind the first: the two are one
pub splice_next : (old : List ℕ) (at : ℕ) (b₁ b₂ : List ℕ) (n : ℕ) → at ≤ length old → at + length b₁ ≡ n
    → splice (splice old at b₁) n b₂ ≡ splice old at (b₁ ++ b₂)
unfolding splice
splice_next old at b₁ b₂ n h e =
    let p = take at old ++ b₁ in
    let rest = drop (at + length b₁) old in
    let l = head_length old at b₁ h in
    rw (← e, take_at p rest (at + length b₁) l, drop_past p rest (at + length b₁) (length b₂) l)
    (simp (drop-drop, length-append, add_assoc, append_assoc))

-- a part `&mut xs[a..a + k]` was lent and came back with a block in it: the whole has the block
pub splice_part : (xs : List ℕ) (a k : ℕ) (ys : List ℕ) (p : ℕ) (b : List ℕ) → a + k ≤ length xs → p + length b ≤ k
    → ys ≡ splice (take k (drop a xs)) p b
    → take a xs ++ (ys ++ drop k (drop a xs)) ≡ splice xs (a + p) b
unfolding splice
splice_part xs a k ys p b h hb e =
    let d = drop a xs in
    let m = p + length b in
    let long : length (take k d) ≡ k = length-take-le k d (omega (arith, length-drop a xs)) in
    let tail : drop m (take k d) ++ drop k d ≡ drop m d = sym (drop-append-le m (take k d) (drop k d) (omega arith)) ∙ ap (drop m) (take-append-drop k d) in
    rw (e, take-take p k d (omega arith)) (simp (append_assoc, tail) (simp (drop-drop, take-add, add_assoc, append_assoc)))

-- a part `&mut xs[a..]`, to the end
pub splice_tail : (xs : List ℕ) (a : ℕ) (ys : List ℕ) (p : ℕ) (b : List ℕ) → a + p + length b ≤ length xs
    → ys ≡ splice (take (length xs - a) (drop a xs)) p b
    → take a xs ++ (ys ++ drop (length xs - a) (drop a xs)) ≡ splice xs (a + p) b
splice_tail xs a ys p b h e = splice_part xs a (length xs - a) ys p b (omega arith) (omega arith) e

-- the same, the block at the part's start
pub splice_rest : (xs : List ℕ) (a : ℕ) (ys b : List ℕ) → a + length b ≤ length xs
    → ys ≡ splice (take (length xs - a) (drop a xs)) 0 b
    → take a xs ++ (ys ++ drop (length xs - a) (drop a xs)) ≡ splice xs a b
splice_rest xs a ys b h e = splice_tail xs a ys 0 b (omega arith) e ∙ simp add-zero

-- a part `&mut xs[a..a + k]` was lent and came back as a block: the whole has the block
pub put_mid_splice : (xs : List ℕ) (a k : ℕ) (b : List ℕ) → k ≡ length b → put_mid a k xs b ≡ splice xs a b
unfolding splice
put_mid_splice xs a k b e = rw e (simp (drop-drop, append_assoc))

-- stores one after the other, from index i on, are a block
pub sets_splice : (l : List ℕ) (i : ℕ) (vs : List ℕ) → i + length vs ≤ length l → sets l i vs ≡ splice l i vs
unfolding splice
sets_splice l i vs h = sets-eq vs l i h

-- one store is a block of one
pub set_splice : (l : List ℕ) (i v : ℕ) → i < length l → set l i v ≡ splice l i (v ∷ [])
set_splice l i v h = sets_splice l i (v ∷ []) (omega arith)

-- ---- if_room

-- with room, the block
pub room : (old : List ℕ) (at need : ℕ) (b : List ℕ) → at + need ≤ length old → if_room old at need b ≡ b
unfolding if_room
room old at need b h = rw (le-leb (at + need) (length old) h)

-- without, nothing
pub no_room : (old : List ℕ) (at need : ℕ) (b : List ℕ) → length old < at + need → if_room old at need b ≡ []
unfolding if_room
no_room old at need b h = rw (lt-leb (at + need) (length old) h)

-- with room, where the first k bytes were lent and came back as a block
pub start_in_room : (old : List ℕ) (k : ℕ) (b new : List ℕ) → k ≤ length old → length new ≡ length (take k old) → new ≡ b
    → new ++ drop k old ≡ splice old 0 (if_room old 0 k b)
start_in_room old k b new h long e =
    let four : k ≡ length b = omega (arith, long, length-take-le k old h, ap length e) in
    rw (room old 0 k b (omega arith), e) (put_mid_splice old 0 k b four)

-- a part `&mut xs[a..]` with that room was lent to such a writer: the whole has the block
pub room_rest : (xs : List ℕ) (a need : ℕ) (ys b : List ℕ) → a + need ≤ length xs → length b ≤ need
    → ys ≡ splice (take (length xs - a) (drop a xs)) 0 (if_room (take (length xs - a) (drop a xs)) 0 need b)
    → take a xs ++ (ys ++ drop (length xs - a) (drop a xs)) ≡ splice xs a b
room_rest xs a need ys b h short e =
    let part = take (length xs - a) (drop a xs) in
    let long : length part ≡ length xs - a = length-take-le (length xs - a) (drop a xs) (omega (arith, length-drop a xs)) in
    splice_rest xs a ys b (omega arith) (rw (room part 0 need b (omega arith)) at e)

-- ---- Wrote

-- with that room it writes its block, and the other way round
pub wrote_in_room : {old m : List ℕ} {at n : ℕ} {b : List ℕ} (need : ℕ) → at + need ≤ length old → Wrote old at b m n → Wrote old at (if_room old at need b) m n
wrote_in_room {old} {m} {at} {n} {b} need h w = rw (room old at need b h) w

pub wrote_all : {old m : List ℕ} {at n : ℕ} {b : List ℕ} (need : ℕ) → at + need ≤ length old → Wrote old at (if_room old at need b) m n → Wrote old at b m n
wrote_all {old} {m} {at} {n} {b} need h w = rw (room old at need b h) at w

-- a store of one byte
pub wrote_byte : (old : List ℕ) (at v : ℕ) → at < length old → Wrote old at (v ∷ []) (set old at v) (at + 1)
wrote_byte old at v h = record { bytes = set_splice old at v h; ends = refl }

-- a part that was lent and came back as the block
pub wrote_part : (old : List ℕ) (at n : ℕ) (b new : List ℕ) → n ≡ at + length b → n ≤ length old → new ≡ b
    → Wrote old at (if_room old at (length b) b) (put_mid at (n - at) old new) n
wrote_part old at n b new e h whole =
    wrote_in_room (length b) (omega arith)
    record { bytes = rw whole (put_mid_splice old at (n - at) b (omega arith)); ends = e }

-- two writers, one after the other
pub wrote_then : {old m m' : List ℕ} {at n n' : ℕ} {b₁ b₂ : List ℕ} → at ≤ length old → Wrote old at b₁ m n → Wrote m n b₂ m' n'
    → Wrote old at (b₁ ++ b₂) m' n'
wrote_then {old} {m} {m'} {at} {n} {n'} {b₁} {b₂} h u v =
    record {
      bytes = v.bytes ∙ rw u.bytes (splice_next old at b₁ b₂ n h (sym u.ends));
      ends = omega (arith, u.ends, v.ends, length-append b₁ b₂);
    }

-- the buffer keeps its length
pub wrote_length : {old m : List ℕ} {at n : ℕ} {b : List ℕ} → Wrote old at b m n → n ≤ length old → length m ≡ length old
wrote_length {old} {m} {at} {n} {b} w h = ap length w.bytes ∙ length_splice old at b (omega (arith, w.ends))

-- two results that keep one promise are equal
pub wrote_same : {old m m' : List ℕ} {at n n' : ℕ} {b : List ℕ} → Wrote old at b m n → Wrote old at b m' n' → (m ≡ m') × (n ≡ n')
wrote_same u v = (u.bytes ∙ sym v.bytes, u.ends ∙ sym v.ends)

-- ---- a writer that goes part by part, as a loop does

-- `rest` is still to be written at index `next` of `out`, and then `old` has `whole` at index `at`
pub record Writing (old : List ℕ) (at : ℕ) (whole out : List ℕ) (next : ℕ) (rest : List ℕ) : Type 0 where
  pub long : length out ≡ length old
  pub bytes : splice out next rest ≡ splice old at whole
  pub ends : next + length rest ≡ at + length whole

-- before the first part
pub writing_all : (old : List ℕ) (at : ℕ) (whole : List ℕ) → Writing old at whole old at whole
writing_all old at whole = record { long = refl; bytes = refl; ends = refl }

-- a part was written
pub writing_part : {old whole out m rest b more : List ℕ} {at next n : ℕ} → Writing old at whole out next rest → rest ≡ b ++ more
    → Wrote out next b m n → n ≤ length old → Writing old at whole m n more
writing_part {old} {whole} {out} {m} {rest} {b} {more} {at} {next} {n} w e part h =
    record {
      long = wrote_length part (omega (arith, w.long)) ∙ w.long;
      bytes = rw (part.bytes, splice_next out next b more n (omega (arith, w.long, part.ends)) (sym part.ends), ← e) w.bytes;
      ends = omega (arith, part.ends, w.ends, ap length e, length-append b more);
    }

-- nothing is left
pub writing_done : {old whole out rest : List ℕ} {at next : ℕ} → Writing old at whole out next rest → rest ≡ [] → Wrote old at whole out next
writing_done {old} {whole} {out} {rest} {at} {next} w e =
    record { bytes = sym (splice_none out next) ∙ (rw e at w.bytes); ends = omega (arith, w.ends, ap length e) }

-- ---- four bytes
pub four : (xs : List ℕ) → length xs ≡ 4 → (get_or xs 0 0 ∷ get_or xs 1 0 ∷ get_or xs 2 0 ∷ get_or xs 3 0 ∷ []) ≡ xs
four [] h = absurd (omega (arith, h))
four (a ∷ []) h = absurd (omega (arith, h))
four (a ∷ b ∷ []) h = absurd (omega (arith, h))
four (a ∷ b ∷ c ∷ []) h = absurd (omega (arith, h))
four (a ∷ b ∷ c ∷ d ∷ []) h = refl
four (a ∷ b ∷ c ∷ d ∷ e ∷ xs) h = absurd (omega (arith, h))
