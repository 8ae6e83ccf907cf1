-- The marks say of the chain what all its ports say: who asks, and who is under service.
-- Assumes nothing.
use Rattle.std.specs.Prelude.{if◌then◌else◌}
use mathlib.Core.Path.{◌≡◌, refl, sym, ap, ◌∙◌}
use mathlib.Core.Bool.{Bool, true, false, ◌&&◌, not}
use mathlib.Core.List.{List, [], ◌∷◌, map}
use Prim.Native.Nat.{ℕ, zero, suc, ◌+◌, ◌*◌, ◌/◌, ◌%◌, ◌≤◌, ◌<◌}
use native.Mathlib.Nat.{not-suc-le-zero, le_of_suc-le-suc}
use native.Mathlib.Omega.{arith}
use lib.Dec.{ltb, leb-suc-suc, leb-zero}
use lib.ListN.{length, length-map, get_or, take, set, replicate}
use lib.Seq.{set-get_or}
use borrow.Author.Tests.{eq-eqb, ne_eqb, eqb-true, lt-ltb, le-ltb, ltb-false}
use Rattle.bits.specs.Bits.{◌is◌}
use Rattle.bits.proofs.Logic.{by_cases}
use Rattle.port.specs.declared.Port.{Port}
use Rattle.chip.specs.declared.Chip.{Chip}
use Rattle.chain.specs.Places.{first}
use Rattle.chain.specs.Chain.{most, ready, under, asking, asker, asks, holder, flat}
use Rattle.chain.specs.Marks.{mark_of, Marks, marked_of, marks_of, up, caller_of, holder_of, renewed_of}
use Rattle.chain.proofs.Places.{set_beyond}

-- ---- the nearest set place and 1, or 0 if none is set
abbrev next : ℕ → ℕ
next zero = zero
next (suc k) = suc (suc k)

abbrev named : List Bool → ℕ
named [] = 0
named (true ∷ s) = 1
named (false ∷ s) = next (named s)

up_is : (n : ℕ) → up n ≡ next (next n)
up_is zero = refl
up_is (suc k) = omega arith

next_if : (t : Bool) (k : ℕ) → next (if t then suc k else 0) ≡ (if t then suc (suc k) else 0)
next_if true k = refl
next_if false k = refl

counted : (s : List Bool) → named s ≡ (if ltb (first s) (length s) then suc (first s) else 0)
counted [] = refl
counted (true ∷ s) = rw (leb-suc-suc 0 (length s), leb-zero)
counted (false ∷ s) = rw (leb-suc-suc (suc (first s)) (length s), counted s) (next_if (ltb (first s) (length s)) (first s))

named_is : (s : List Bool) → named s ≡ (if ltb (first s) (length s) then first s + 1 else 0)
named_is s = counted s ∙ ap (λ (k : ℕ). if ltb (first s) (length s) then k else 0) (omega arith)

asking_length : (free : Bool) (ps : List Port) → length (asking free ps) ≡ length ps
asking_length free [] = refl
asking_length free (p ∷ ps) = rw (asking_length (free && not (under p)) ps)

-- behind a port under service nobody asks
none_asks : (ps : List Port) → named (asking false ps) ≡ 0
none_asks [] = refl
none_asks (p ∷ ps) = go (ready p) (none_asks ps)
  where
    go : (r : Bool) → named (asking false ps) ≡ 0 → named ((r && false) ∷ asking false ps) ≡ 0
    go true e = rw e
    go false e = rw e

-- ---- one chip's mark, by what its ports show: `u`, `v` A and B under service, `r`, `s` A and B ready
abbrev met : Bool → Bool → Bool → Bool → ℕ
met u r v s = if u then 3 else if r then 1 else if v then 3 else if s then 2 else 0

abbrev held : Bool → Bool → ℕ
held u v = if u then 1 else if v then 2 else 0

met_chip : (u r v s : Bool) (n : ℕ) (f : Bool → List Bool) → n ≡ named (f true) → named (f false) ≡ 0
    → (if (met u r v s + 4 * held u v) % 4 is 0 then up n else if (met u r v s + 4 * held u v) % 4 is 3 then 0 else (met u r v s + 4 * held u v) % 4)
    ≡ named ((r && (true && not u)) ∷ (s && (true && not u && not v)) ∷ f (true && not u && not v))
met_chip true true v true n f e z = rw z
met_chip true true v false n f e z = rw z
met_chip true false v true n f e z = rw z
met_chip true false v false n f e z = rw z
met_chip false true true s n f e z = refl
met_chip false true false s n f e z = refl
met_chip false false true true n f e z = rw z
met_chip false false true false n f e z = rw z
met_chip false false false true n f e z = refl
met_chip false false false false n f e z = up_is n ∙ rw e

held_chip : (u r v s : Bool) (n : ℕ) (l : List Bool) → n ≡ named l
    → (if (met u r v s + 4 * held u v) / 4 % 4 is 0 then up n else (met u r v s + 4 * held u v) / 4 % 4) ≡ named (u ∷ v ∷ l)
held_chip true r v s n l e = refl
held_chip false true true s n l e = refl
held_chip false false true s n l e = refl
held_chip false true false s n l e = up_is n ∙ rw e
held_chip false false false true n l e = up_is n ∙ rw e
held_chip false false false false n l e = up_is n ∙ rw e

-- what the code chooses, whatever the four bits are: A under service, A ready, B under service, B ready
digit :
    (s r t u : Bool)
    → (if s then 7 else if r then (if t then 9 else 1) else if t then 11 else if u then 2 else 0)
    ≡ (if s then 3 else if r then 1 else if t then 3 else if u then 2 else 0) + 4 * (if s then 1 else if t then 2 else 0)
digit true r t u = refl
digit false true true u = refl
digit false true false u = refl
digit false false true u = refl
digit false false false true = refl
digit false false false false = refl

pub chosen :
    (c : Chip) (last behind first other mark : ℕ)
    → last ≡ (if c.b.waiting && c.b.live then 2 else 0) → behind ≡ (if c.b.service then 11 else last) → first ≡ (if c.b.service then 9 else 1)
    → other ≡ (if c.a.waiting && c.a.live then first else behind) → mark ≡ (if c.a.service then 7 else other) → mark ≡ mark_of c
unfolding mark_of
chosen c last behind first other mark e f g h i =
    rw (i, h, g, f, e) (digit c.a.service (c.a.waiting && c.a.live) c.b.service (c.b.waiting && c.b.live))

-- ---- the row of chips
no_caller : (cs : List Chip) → caller_of (marks_of zero cs) ≡ 0
unfolding caller_of
no_caller [] = refl
no_caller (c ∷ cs) = rw (no_caller cs)

no_holder : (cs : List Chip) → holder_of (marks_of zero cs) ≡ 0
unfolding holder_of
no_holder [] = refl
no_holder (c ∷ cs) = rw (no_holder cs)

caller_named : (n : ℕ) (cs : List Chip) → caller_of (marks_of n cs) ≡ named (asking true (flat (take n cs)))
unfolding caller_of mark_of
caller_named zero cs = no_caller cs
caller_named (suc n) [] = refl
caller_named (suc n) (c ∷ cs) =
    met_chip (under c.a) (ready c.a) (under c.b) (ready c.b) (caller_of (marks_of n cs)) (λ free. asking free (flat (take n cs)))
    (caller_named n cs) (none_asks (flat (take n cs)))

holder_named : (n : ℕ) (cs : List Chip) → holder_of (marks_of n cs) ≡ named (map under (flat (take n cs)))
unfolding holder_of mark_of
holder_named zero cs = no_holder cs
holder_named (suc n) [] = refl
holder_named (suc n) (c ∷ cs) =
    held_chip (under c.a) (ready c.a) (under c.b) (ready c.b) (holder_of (marks_of n cs)) (map under (flat (take n cs))) (holder_named n cs)

-- WHO ASKS, WHO IS RELEASED: the place and 1, or 0
pub caller_is : (n : ℕ) (cs : List Chip) → caller_of (marks_of n cs) ≡ (if asks (flat (take n cs)) then asker (flat (take n cs)) + 1 else 0)
caller_is n cs = caller_named n cs ∙ named_is (asking true (flat (take n cs))) ∙ rw (asking_length true (flat (take n cs)))

pub holder_is : (n : ℕ) (cs : List Chip) → holder_of (marks_of n cs) ≡ (if ltb (holder (flat (take n cs))) (length (flat (take n cs))) then holder (flat (take n cs)) + 1 else 0)
holder_is n cs = holder_named n cs ∙ named_is (map under (flat (take n cs))) ∙ rw (length-map (flat (take n cs)) under)

-- ---- a chip changed is a mark changed
pub marks_set : (n : ℕ) (cs : List Chip) (k : ℕ) (c : Chip) → k < n → marks_of n (set cs k c) ≡ marked_of (marks_of n cs) k c
marks_set zero cs k c h = absurd (not-suc-le-zero h)
marks_set (suc n) [] k c h = refl
marks_set (suc n) (x ∷ cs) zero c h = refl
marks_set (suc n) (x ∷ cs) (suc k) c h = ap (λ (l : List ℕ). mark_of x ∷ l) (marks_set n cs k c (le_of_suc-le-suc h))

-- ---- the marks made in turn, chip after chip, and each chip's own as it goes
pub none_marked : (m : ℕ) (cs : List Chip) → length cs ≡ m → replicate m 0 ≡ marks_of 0 cs
none_marked zero [] e = refl
none_marked (suc m) [] e = absurd (omega (arith, e))
none_marked zero (c ∷ cs) e = absurd (omega (arith, e))
none_marked (suc m) (c ∷ cs) e = ap (λ (l : Marks). 0 ∷ l) (none_marked m cs (omega (arith, e)))

marks_put : (i : ℕ) (cs : List Chip) (c : Chip) → i < length cs → marked_of (marks_of i cs) i c ≡ marks_of (suc i) (set cs i c)
marks_put i [] c h = absurd (not-suc-le-zero h)
marks_put zero (x ∷ cs) c h = refl
marks_put (suc i) (x ∷ cs) c h = ap (λ (l : Marks). mark_of x ∷ l) (marks_put i cs c (le_of_suc-le-suc h))

pub one_more_marked : (i : ℕ) (cs : List Chip) (c : Chip) → i < length cs → marked_of (marks_of i cs) i c ≡ marks_of (i + 1) (set cs i c)
one_more_marked i cs c h = let e : i + 1 ≡ suc i = omega arith in rw e (marks_put i cs c h)

pub all_marked : (i n : ℕ) (cs : List Chip) → length cs ≤ i → i ≤ n → marks_of i cs ≡ marks_of n cs
all_marked i n [] h k = refl
all_marked zero n (c ∷ cs) h k = absurd (not-suc-le-zero h)
all_marked (suc i) zero (c ∷ cs) h k = absurd (not-suc-le-zero k)
all_marked (suc i) (suc n) (c ∷ cs) h k = ap (λ (l : Marks). mark_of c ∷ l) (all_marked i n cs (le_of_suc-le-suc h) (le_of_suc-le-suc k))

-- ---- the ways out of `marked` and `renewed`
module _ (ms : Marks) (k : ℕ) (c : Chip) where
  pub sets_mark : (m : ℕ) → m ≡ mark_of c → set ms k m ≡ marked_of ms k c
  sets_mark m e = rw e

  pub asks_still : (r : ℕ) → length ms ≡ most → most ≤ k → r ≡ renewed_of ms k c r
  unfolding renewed_of
  asks_still r l h = rw (l, le-ltb k most h)

  pub asks_same : (r m : ℕ) → length ms ≡ most → k < most → get_or ms k 0 ≡ m → m ≡ mark_of c → r ≡ renewed_of ms k c r
  unfolding renewed_of
  asks_same r m l h e i = rw (l, lt-ltb k most h, eq-eqb (get_or ms k 0) (mark_of c) (e ∙ i))

  pub asks_anew : (q r m : ℕ) → length ms ≡ most → k < most → (get_or ms k 0 ≡ m → ⊥) → m ≡ mark_of c → q ≡ caller_of (set ms k m) → q ≡ renewed_of ms k c r
  unfolding renewed_of
  asks_anew q r m l h n e i = rw (l, lt-ltb k most h, ne_eqb (get_or ms k 0) (mark_of c) (λ z. n (z ∙ sym e))) (i ∙ ap caller_of (sets_mark m e))

  -- it is who asks now, if it was who asked before
  pub renewed_is : (r : ℕ) → r ≡ caller_of ms → renewed_of ms k c r ≡ caller_of (marked_of ms k c)
  unfolding renewed_of
  renewed_is r e =
      by_cases (ltb k (length ms))
      (λ t. by_cases (get_or ms k 0 is mark_of c) (λ u. rw (t, u) (e ∙ ap caller_of (sym (set-get_or ms k 0) ∙ ap (set ms k) (eqb-true (get_or ms k 0) (mark_of c) u)))) (λ u. rw (t, u)))
      (λ t. rw t (e ∙ ap caller_of (set_beyond ms k (mark_of c) (length ms) refl (ltb-false k (length ms) t))))
