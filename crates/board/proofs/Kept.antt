-- What is known of the chips beside the board: its marks, its request, and whether a fetch could change it. One record on a sound board
-- is the step, and keeps all of it.
-- Assumes nothing.
use Rattle.std.specs.Prelude.{Option, Some, None, Ok, Err, if◌then◌else◌}
use Rattle.std.specs.Result.{is_ok}
use mathlib.Core.Path.{◌≡◌, refl, sym, ap, ap₂, ◌∙◌}
use mathlib.Core.Bool.{Bool, true, false, ◌&&◌, ◌||◌, not, true≢false}
use mathlib.Core.List.{List, [], ◌∷◌, map}
use Prim.Native.Nat.{ℕ, zero, suc, ◌*◌, ◌<◌}
use native.Mathlib.Omega.{arith}
use lib.Dec.{ltb}
use lib.ListN.{length, length-map, length-set, set, take}
use lib.Seq.{take-set-lt, length_front}
use borrow.Author.Tests.{ltb-true, eq-eqb}
use Rattle.bits.specs.Bits.{◌is◌}
use Rattle.bits.proofs.Logic.{by_cases}
use Rattle.refusals.specs.declared.Refusal.{Refusal}
use Rattle.refusals.specs.Numbers.{code_of}
use Rattle.chip.specs.declared.Chip.{Chip}
use Rattle.chip.specs.Chip as chip
use Rattle.chain.specs.Chain.{most, asker, asks, holder}
use Rattle.chain.specs.Decode.{reti_of}
use Rattle.chain.specs.Marks.{Marks, marked_of, marks_of, caller_of}
use Rattle.chain.proofs.Marks.{caller_is, holder_is, marks_set, renewed_is}
use Rattle.board.specs.declared.Board.{Board}
use Rattle.board.specs.declared.Doing.{Doing}
use Rattle.board.specs.declared.Look.{Look}
use Rattle.board.specs.declared.Sweep.{Sweep}
use Rattle.board.specs.declared.Sweep.TheVariants.{Clear, Wake}
use Rattle.board.specs.declared.Plan.{Plan}
use Rattle.board.specs.declared.Plan.TheVariants.{Nothing, One, Each}
use Rattle.board.specs.declared.Touched.{Touched}
use Rattle.board.specs.Board.{there, ports, sound_board}
use Rattle.board.specs.Step.{kind_of, place_of, value_of, last_of, doing_of, Stepped, step_of}
use Rattle.board.specs.Halves.{stirs, noted_of, early_at, read_of, named_by, freed_of, release_plan, fetch_plan, serve_plan, acknowledge_plan, plan_of, index_of, chip_at, touched_of, sweep_of, freed_chips, swept_of, changed_of, with_swept, carried, listened, advanced_of, stepped}
use Rattle.board.specs.Plans.{Within, Plans, EveryPlan, look_at}
use Rattle.board.proofs.Tables.{place_there, read_is, by_read}
use Rattle.board.proofs.Ways.{value_or}
use Rattle.board.proofs.There.{take_within}
use Rattle.board.proofs.Quick.{step_sound}
use Rattle.board.proofs.Ports.{Still, neither, quiet_chip}
use Rattle.board.proofs.Halves.{places, index, named_is, halves}

-- what is known is right
pub record Known (b : Board) (l : Look) : Type 0 where
  pub row : length b.chips ≡ most
  pub marked : l.marks ≡ marks_of b.size b.chips
  pub asked : l.request ≡ caller_of (marks_of b.size b.chips)
  pub still : l.due ≡ false → Still (there b)

pub record Kept (b : Board) (l : Look) : Type 0 where
  pub sound : sound_board b ≡ true
  pub known : Known b l

-- ---- what the second half leaves, whatever the plan
-- a fetch changes nothing of a chip that was just reset or fetched
sweep_still : (sweep : Sweep) (c : Chip) → chip.fetch (sweep_of sweep c) ≡ sweep_of sweep c
sweep_still Clear c = refl
sweep_still Wake c = rw (again c.a.live c.a.asked (not (c.a.awaiting is 2)), again c.b.live c.b.asked (not (c.b.awaiting is 2)))
  where
    again : (live asked t : Bool) → (live || (asked && t) || (asked && t)) ≡ (live || (asked && t))
    again true asked t = refl
    again false true true = refl
    again false true false = refl
    again false false t = refl

map_still : (f : Chip → Chip) → ((c : Chip) → chip.fetch (f c) ≡ f c) → (cs : List Chip) → Still (map f cs)
map_still f h [] = refl
map_still f h (c ∷ cs) = rw (h c, map_still f h cs)

free_length : (cs : List Chip) (freed : Option ℕ) → length (freed_chips cs freed) ≡ length cs
free_length cs None = refl
free_length cs (Some place) = length-set cs (index_of place) _

map_set : (f : Chip → Chip) (l : List Chip) (k : ℕ) (c : Chip) → map f (set l k c) ≡ set (map f l) k (f c)
map_set f [] k c = refl
map_set f (x ∷ l) zero c = refl
map_set f (x ∷ l) (suc k) c = rw (map_set f l k c)

set_still : (l : List Chip) (k : ℕ) (c : Chip) → Still l → chip.fetch c ≡ c → Still (set l k c)
set_still l k c h e = map_set chip.fetch l k c ∙ ap₂ (λ (m : List Chip) (x : Chip). set m k x) h e

module _ (b : Board) (l : Look) (k : Known b l) where
  pub changed_known : (place : ℕ) (t : Touched) → index_of place < b.size → Known (changed_of b l place t).board (changed_of b l place t).look
  unfolding changed_of noted_of
  changed_known place t h =
      let i = index_of place in
      let m = ap (λ (ms : Marks). marked_of ms i t.chip) k.marked ∙ sym (marks_set b.size b.chips i t.chip h) in
      record {
        row = length-set b.chips i t.chip ∙ k.row;
        marked = m;
        asked = renewed_is l.marks i t.chip l.request (k.asked ∙ ap caller_of (sym k.marked)) ∙ ap caller_of m;
        still = λ z. let n = neither l.due (stirs t.chip) z in
            rw (take-set-lt b.size b.chips i t.chip h) (set_still (there b) i t.chip (k.still n.0) (quiet_chip t.chip n.1));
      }

  swept_known : (freed : Option ℕ) (sweep : Sweep) (v : ℕ) → Known (with_swept b (swept_of b.size b.chips freed sweep) v).board (with_swept b (swept_of b.size b.chips freed sweep) v).look
  swept_known freed sweep v =
      let x = freed_chips b.chips freed in
      let f = sweep_of sweep in
      let n = length-map (take b.size x) f in
      record {
        row = length_front x (map f (take b.size x)) b.size n ∙ free_length b.chips freed ∙ k.row;
        marked = refl;
        asked = refl;
        still = λ _. rw (take_within b.size (map f (take b.size x)) x n) (map_still f (sweep_still sweep) (take b.size x));
      }

  carried_known : (p : Plan) (v : ℕ) → Within b.size p → Known (carried b l p v).board (carried b l p v).look
  unfolding carried
  carried_known (Nothing a) v h = k
  carried_known (One place touch) v h = changed_known place (touched_of (chip_at b place) place touch v) h
  carried_known (Each freed sweep) v h = swept_known freed sweep v

-- ---- every plan
module _ (b : Board) (s : sound_board b ≡ true) (row : length b.chips ≡ most) (due : Bool) where
  place_within : (place : ℕ) → place < b.size * 2 → index_of place < b.size
  place_within place h = omega (arith, index b s row place h)

  -- a RETI's place, of a plan for one chip and of one for every chip
  freed_plans : (t : Bool) (v : ℕ) → (t ≡ true → holder (ports b) < b.size * 2)
      → Plans b (if due then Each (if t then Some (holder (ports b)) else None) Wake else release_plan v (caller_of (marks_of b.size b.chips)) (if t then Some (holder (ports b)) else None))
  freed_plans true v h = by_cases due (λ d. rw d (record { there = place_within (holder (ports b)) (h refl); asked = refl })) (λ d. rw d (record { there = place_within (holder (ports b)) (h refl); asked = refl }))
  freed_plans false v h = by_cases due (λ d. rw d (record { there = refl; asked = refl })) (λ d. rw d (record { there = refl; asked = refl }))

  fetch_plans : (v : ℕ) → Plans b (fetch_plan b.decoder (look_at b due) v)
  unfolding fetch_plan freed_of
  fetch_plans v =
      by_cases (reti_of b.decoder v)
      (λ t. rw (t, holder_is b.size b.chips, named_is b s row (ltb (holder (ports b)) (length (ports b))) (holder (ports b)))
      (freed_plans (ltb (holder (ports b)) (length (ports b))) v (λ u. omega (arith, ltb-true (holder (ports b)) (length (ports b)) u, places b s row))))
      (λ t. rw t (freed_plans false v (λ u. absurd (true≢false (sym u)))))

  asker_plans : (t : Bool) (r : ℕ) → r ≡ caller_of (marks_of b.size b.chips) → (t ≡ true → asker (ports b) < b.size * 2) → Plans b (serve_plan r (if t then Some (asker (ports b)) else None))
  asker_plans true r e h = record { there = place_within (asker (ports b)) (h refl); asked = refl }
  asker_plans false r e h = record { there = refl; asked = e }

  acknowledge_plans : Plans b (acknowledge_plan (caller_of (marks_of b.size b.chips)))
  unfolding acknowledge_plan
  acknowledge_plans =
      rw (ap named_by (caller_is b.size b.chips) ∙ named_is b s row (asks (ports b)) (asker (ports b)))
      (asker_plans (asks (ports b)) (caller_of (marks_of b.size b.chips)) refl (λ u. omega (arith, ltb-true (asker (ports b)) (length (ports b)) u, places b s row)))

  module _ (e : List ℕ) where
    doing_plans : place_of e < b.size * 2 → Plans b (plan_of b.decoder (look_at b due) (doing_of e))
    unfolding doing_of
    doing_plans h =
        by_cases (kind_of e is 0) (λ i. rw i (record { there = refl; asked = refl })) (λ i. rw i
        (by_cases (kind_of e is 1) (λ j. rw j (fetch_plans (value_of e))) (λ j. rw j
        (by_cases (kind_of e is 2) (λ m. rw m acknowledge_plans) (λ m. rw m (record { there = place_within (place_of e) h; asked = refl }))))))

    pub planned : (g : Doing) → read_of b.size e ≡ Ok g → Plans b (plan_of b.decoder (look_at b due) g)
    planned g i =
        by_read b.size e (λ r h z. absurd (true≢false (ap is_ok (sym i ∙ h))))
        (λ a. rw (ap (value_or g) (sym i ∙ a)) (doing_plans (place_there b.size (kind_of e) (place_of e) (value_of e) (last_of e) (eq-eqb (early_at b.size e) 0 (sym (read_is b.size e) ∙ ap code_of a)))))

    refused_asks : (r : Refusal) → read_of b.size e ≡ Err r → (advanced_of b (look_at b due) e).answer.request ≡ caller_of (marks_of b.size b.chips)
    unfolding advanced_of
    refused_asks r i = rw i

pub every_plan : EveryPlan
every_plan = λ b s row due e. record { planned = planned b s row due e; refused = refused_asks b s row due e }

-- ---- one record
module _ (b : Board) (l : Look) (k : Kept b l) where
  look_is : l ≡ look_at b l.due
  look_is = ap₂ (λ (ms : Marks) (r : ℕ). record { marks = ms; due = l.due; request = r }) k.known.marked k.known.asked

  module _ (e : List ℕ) where
    pub planned_within : (g : Doing) → read_of b.size e ≡ Ok g → Within b.size (plan_of b.decoder (look_at b l.due) g)
    planned_within g i = (planned b k.sound k.known.row l.due e g i).there

    still_known : Known (advanced_of b l e).board (advanced_of b l e).look
    unfolding advanced_of
    still_known =
        by_read b.size e (λ r h z. rw h k.known)
        (λ a. rw a
        (carried_known (listened b (doing_of e)) l (record { row = k.known.row; marked = k.known.marked; asked = k.known.asked; still = k.known.still })
        (plan_of b.decoder l (doing_of e)) (value_of e) (rw look_is (planned_within (doing_of e) a))))

    module _ (n : length e ≡ 4) where
      pub advances : stepped (advanced_of b l e) ≡ step_of b e
      advances = rw look_is (rw (eq-eqb (length e) 4 n) at (halves b k.sound k.known.row l.due k.known.still e))

      pub keeps : ltb (value_of e) 256 ≡ true → Kept (advanced_of b l e).board (advanced_of b l e).look
      keeps byte = record {
        sound = ap (λ (x : Stepped). sound_board x.board) advances ∙ step_sound b e byte k.sound;
        known = still_known;
      }
