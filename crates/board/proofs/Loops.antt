-- A loop over the chips that are there: what it still has to do before index i, over any lists. `fill g i n ms cs` is ms with g of the
-- element of cs from index i on, for the indexes below n.
-- Assumes nothing.
use Rattle.std.specs.Prelude.{min}
use mathlib.Core.Path.{◌≡◌, refl, sym, ap, ◌∙◌}
use mathlib.Core.Bool.{Bool, true, false, ◌&&◌, ◌||◌}
use mathlib.Core.List.{List, [], ◌∷◌, map}
use Prim.Native.Nat.{ℕ, zero, suc, ◌+◌, ◌≤◌, ◌<◌}
use native.Mathlib.Nat.{not-suc-le-zero, le_of_suc-le-suc}
use native.Mathlib.Omega.{arith}
use lib.Dec.{ltb}
use borrow.Author.Tests.{ltb-true, ltb-false}
use lib.ListN.{length, length-set, length-take, get_or, set, take, drop, drop_of_length-le}
use lib.Seq.{set-get_or, get_or-take}
use Rattle.bits.proofs.Logic.{by_cases}
use Rattle.chip.specs.declared.Chip.{Chip}
use Rattle.chip.specs.Sound.{sound_chip}
use Rattle.chain.specs.Chain.{most}
use Rattle.chain.specs.Marks.{Marks, unmarked_of, marked_of, marks_of}
use Rattle.chain.proofs.Marks.{none_marked, one_more_marked, all_marked}
use Rattle.board.specs.Board.{within, sound_all}
use Rattle.board.specs.Halves.{stirs, stirs_some, blank}

module _ {A B : Type 0} (g : A → B) where
  abbrev pub fill : ℕ → ℕ → List B → List A → List B
  fill i n [] cs = []
  fill i n (m ∷ ms) [] = m ∷ ms
  fill i zero (m ∷ ms) (c ∷ cs) = m ∷ ms
  fill zero (suc n) (m ∷ ms) (c ∷ cs) = g c ∷ fill zero n ms cs
  fill (suc i) (suc n) (m ∷ ms) (c ∷ cs) = m ∷ fill i n ms cs

  -- one more
  fill_step : (d : A) (i n : ℕ) (ms : List B) (cs : List A) → i < n → i < length cs → fill (suc i) n (set ms i (g (get_or cs i d))) cs ≡ fill i n ms cs
  fill_step d i n [] cs h l = refl
  fill_step d i n (m ∷ ms) [] h l = absurd (not-suc-le-zero l)
  fill_step d i zero (m ∷ ms) (c ∷ cs) h l = absurd (not-suc-le-zero h)
  fill_step d zero (suc n) (m ∷ ms) (c ∷ cs) h l = refl
  fill_step d (suc i) (suc n) (m ∷ ms) (c ∷ cs) h l = ap (λ (r : List B). m ∷ r) (fill_step d i n ms cs (le_of_suc-le-suc h) (le_of_suc-le-suc l))

  pub fill_turn : (d : A) (i n : ℕ) (ms : List B) (cs : List A) → i < n → i < length cs → fill (i + 1) n (set ms i (g (get_or cs i d))) cs ≡ fill i n ms cs
  fill_turn d i n ms cs h l = let e : i + 1 ≡ suc i = omega arith in rw e (fill_step d i n ms cs h l)

  -- the end: no index below n is left, or none of the list
  pub fill_done : (i n : ℕ) (ms : List B) (cs : List A) → n ≤ i → fill i n ms cs ≡ ms
  fill_done i n [] cs h = refl
  fill_done i n (m ∷ ms) [] h = refl
  fill_done i zero (m ∷ ms) (c ∷ cs) h = refl
  fill_done zero (suc n) (m ∷ ms) (c ∷ cs) h = absurd (not-suc-le-zero h)
  fill_done (suc i) (suc n) (m ∷ ms) (c ∷ cs) h = ap (λ (r : List B). m ∷ r) (fill_done i n ms cs (le_of_suc-le-suc h))

  pub fill_all : (i n : ℕ) (ms : List B) (cs : List A) → length ms ≤ i → fill i n ms cs ≡ ms
  fill_all i n [] cs h = refl
  fill_all i n (m ∷ ms) [] h = refl
  fill_all i zero (m ∷ ms) (c ∷ cs) h = refl
  fill_all zero (suc n) (m ∷ ms) (c ∷ cs) h = absurd (not-suc-le-zero h)
  fill_all (suc i) (suc n) (m ∷ ms) (c ∷ cs) h = ap (λ (r : List B). m ∷ r) (fill_all i n ms cs (le_of_suc-le-suc h))

-- ---- what the loops have done when they are through
pub fill_within : (f : Chip → Chip) (n : ℕ) (cs : List Chip) → fill f 0 n cs cs ≡ within n (map f) cs
fill_within f zero [] = refl
fill_within f zero (c ∷ cs) = refl
fill_within f (suc n) [] = refl
fill_within f (suc n) (c ∷ cs) = ap (λ (l : List Chip). f c ∷ l) (fill_within f n cs)

-- ---- the chips that are there, from index i on
left_step : (i n : ℕ) (cs : List Chip) (d : Chip) → i < n → i < length cs → drop i (take n cs) ≡ get_or cs i d ∷ drop (suc i) (take n cs)
left_step i n [] d h l = absurd (not-suc-le-zero l)
left_step i zero (c ∷ cs) d h l = absurd (not-suc-le-zero h)
left_step zero (suc n) (c ∷ cs) d h l = refl
left_step (suc i) (suc n) (c ∷ cs) d h l = left_step i n cs d (le_of_suc-le-suc h) (le_of_suc-le-suc l)

pub left_turn : (i n : ℕ) (cs : List Chip) (d : Chip) → i < n → i < length cs → drop i (take n cs) ≡ get_or cs i d ∷ drop (i + 1) (take n cs)
left_turn i n cs d h l = let e : i + 1 ≡ suc i = omega arith in rw e (left_step i n cs d h l)

pub left_done : (i n : ℕ) (cs : List Chip) → n ≤ i → drop i (take n cs) ≡ []
left_done zero zero cs h = refl
left_done zero (suc n) cs h = absurd (not-suc-le-zero h)
left_done (suc i) zero cs h = refl
left_done (suc i) (suc n) [] h = refl
left_done (suc i) (suc n) (c ∷ cs) h = left_done i n cs (le_of_suc-le-suc h)

-- ---- one look at every chip that is there
and_moves : (a b c : Bool) → (a && b && c) ≡ (a && (b && c))
and_moves true b c = refl
and_moves false b c = refl

or_moves : (a b c : Bool) → (a || b || c) ≡ (a || (b || c))
or_moves true b c = refl
or_moves false b c = refl

module _ (n : ℕ) (cs : List Chip) where
  pub record Looking (sound due : Bool) (marks : Marks) (i : ℕ) : Type 0 where
    pub sounds : (sound && sound_all (drop i (take n cs))) ≡ sound_all (take n cs)
    pub dues : (due || stirs_some (drop i (take n cs))) ≡ stirs_some (take n cs)
    pub marked : marks ≡ marks_of i cs

  pub look_begins : (ms : Marks) → length cs ≡ most → ms ≡ unmarked_of → Looking true false ms 0
  look_begins ms h e = record { sounds = refl; dues = refl; marked = e ∙ none_marked most cs h }

  pub look_turns :
      {s d : Bool} {ms : Marks} {i : ℕ} (m : ℕ) (x y : Bool) (next : Marks) → Looking s d ms i → i < n → i < length cs → i < m
      → x ≡ sound_chip (get_or (take m cs) i blank) → y ≡ stirs (get_or (take m cs) i blank) → next ≡ marked_of ms i (get_or (take m cs) i blank) → Looking (s && x) (d || y) next (i + 1)
  look_turns {s} {d} {ms} {i} m x y next l h k g ex ey en =
      let rest = left_turn i n cs blank h k in
      let past = drop (i + 1) (take n cs) in
      let c = get_or cs i blank in
      let here : get_or (take m cs) i blank ≡ c = get_or-take m cs i blank g in
      record {
        sounds = rw (ex, here) (and_moves s (sound_chip c) (sound_all past) ∙ (rw (rest) at l.sounds));
        dues = rw (ey, here) (or_moves d (stirs c) (stirs_some past) ∙ (rw (rest) at l.dues));
        marked = en ∙ ap (marked_of ms i) here ∙ ap (λ (m : Marks). marked_of m i c) l.marked ∙ one_more_marked i cs c k ∙ ap (marks_of (i + 1)) (set-get_or cs i blank);
      }

  and_end : (a : Bool) → (a && true) ≡ a
  and_end true = refl
  and_end false = refl

  or_end : (a : Bool) → (a || false) ≡ a
  or_end true = refl
  or_end false = refl

  look_through : {s d : Bool} {ms : Marks} {i : ℕ} → Looking s d ms i → drop i (take n cs) ≡ [] → ms ≡ marks_of n cs
      → (s ≡ sound_all (take n cs)) × ((d ≡ stirs_some (take n cs)) × (ms ≡ marks_of n cs))
  look_through {s} {d} l e m = (sym (and_end s) ∙ (rw e at l.sounds), (sym (or_end d) ∙ (rw e at l.dues), m))

  pub look_ends : {s d : Bool} {ms : Marks} {i : ℕ} (m : ℕ) → Looking s d ms i → length cs ≡ m → i ≡ min m n
      → (s ≡ sound_all (take n cs)) × ((d ≡ stirs_some (take n cs)) × (ms ≡ marks_of n cs))
  look_ends {s} {d} {ms} {i} m l e t =
      by_cases (ltb n m)
      (λ h. let k : i ≡ n = omega (arith, t, ltb-true n m h) in look_through l (left_done i n cs (omega (arith, k))) (l.marked ∙ ap (λ (j : ℕ). marks_of j cs) k))
      (λ h. let k : m ≤ i = omega (arith, t, ltb-false n m h) in
      look_through l (drop_of_length-le (take n cs) {i = i} (omega (arith, length-take n cs, e, k)))
      (l.marked ∙ all_marked i n cs (rw e k) (omega (arith, t, ltb-false n m h))))

-- ---- each chip that is there changed in its turn
module _ (f : Chip → Chip) (n : ℕ) (cs : List Chip) where
  pub record Sweeping (next : List Chip) (marks : Marks) (i : ℕ) : Type 0 where
    pub fills : fill f i n next cs ≡ within n (map f) cs
    pub marked : marks ≡ marks_of i next
    pub long : length next ≡ length cs
    pub upto : i ≤ n

  pub sweep_begins : (ms : Marks) → length cs ≡ most → ms ≡ unmarked_of → Sweeping cs ms 0
  sweep_begins ms h e = record { fills = fill_within f n cs; marked = e ∙ none_marked most cs h; long = refl; upto = omega arith }

  pub sweep_turns :
      {next : List Chip} {ms : Marks} {i : ℕ} (c : Chip) (ns : Marks) → Sweeping next ms i → i < n → i < length cs
      → c ≡ f (get_or cs i blank) → ns ≡ marked_of ms i c → Sweeping (set next i c) ns (i + 1)
  sweep_turns {next} {ms} {i} c ns l h k ec en =
      record {
        fills = rw (ec) (fill_turn f blank i n next cs h k ∙ l.fills);
        marked = en ∙ ap (λ (m : Marks). marked_of m i c) l.marked ∙ one_more_marked i next c (rw l.long k);
        long = simp length-set l.long;
        upto = omega (arith, h);
      }

  pub sweep_ends : {next : List Chip} {ms : Marks} {i : ℕ} (m : ℕ) → Sweeping next ms i → length cs ≡ m → i ≡ min m n → (next ≡ within n (map f) cs) × (ms ≡ marks_of n next)
  sweep_ends {next} {ms} {i} m l e t =
      by_cases (ltb n m)
      (λ h. let k : i ≡ n = omega (arith, t, ltb-true n m h) in
      (sym (fill_done f i n next cs (omega (arith, k))) ∙ l.fills, l.marked ∙ ap (λ (j : ℕ). marks_of j next) k))
      (λ h. let k : m ≤ i = omega (arith, t, ltb-false n m h) in
      (sym (fill_all f i n next cs (rw (l.long, e) k)) ∙ l.fills, l.marked ∙ all_marked i n next (rw (l.long, e) k) l.upto))
