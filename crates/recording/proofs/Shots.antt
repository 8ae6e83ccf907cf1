-- The shots of a recording, one record after the other, and the first of them.
-- Assumes nothing.
use mathlib.Core.Path.{◌≡◌, refl}
use mathlib.Core.Bool.{Bool, true, false, not}
use mathlib.Core.List.{List, [], ◌∷◌}
use Prim.Native.Nat.{ℕ, zero, suc, ◌+◌}
use native.Mathlib.Omega.{arith}
use lib.ListN.{length, replicate, take}
use borrow.Author.Tests.{eq-eqb, ne_eqb}
use Rattle.bits.specs.Bits.{◌is◌}
use Rattle.bits.proofs.Logic.{by_cases}
use Rattle.bits.proofs.Tests.{if_on, if_off}
use Rattle.port.specs.declared.Port.{Port}
use Rattle.chip.specs.declared.Chip.{Chip}
use Rattle.chain.specs.Chain.{flat}
use Rattle.board.specs.declared.Board.{Board}
use Rattle.board.specs.Step.{step_of}
use Rattle.frames.specs.Stamps.{times_of, gap_in}
use Rattle.frames.specs.Values.{flag, readies, values_of}
use Rattle.frames.specs.Frames.{identifier, value_line, all_lines, changed_lines, first_frame, later_frame}
use Rattle.recording.specs.Wave.{Shot, shot_of, shots_of, merged, later_frames, frames}

-- ---- one record
times_next : (time s : ℕ) (ss : List ℕ) → times_of time (s ∷ ss) ≡ time ∷ times_of (time + gap_in (s ∷ ss)) ss
unfolding times_of gap_in
times_next time s [] = refl
times_next time s (t ∷ ss) = refl

module _ (b : Board) (e : List ℕ) (time s : ℕ) where
  -- the next record has another time, or there is none
  pub shows : (es : List (List ℕ)) (ss : List ℕ) → length es ≡ length ss → (gap_in (s ∷ ss) ≡ 0 → ⊥)
      → merged (shots_of b (e ∷ es) (times_of time (s ∷ ss))) ≡ shot_of time (step_of b e) ∷ merged (shots_of (step_of b e).board es (times_of (time + gap_in (s ∷ ss)) ss))
  unfolding shots_of merged
  shows [] ss h z = rw (times_next time s ss)
  shows (x ∷ es) [] h z = absurd (omega (arith, h))
  shows (x ∷ es) (t ∷ ss) h z =
      let later = time + gap_in (s ∷ t ∷ ss) in
      rw (times_next time s (t ∷ ss), times_next later t ss, if_off (time is later) _ _ (ne_eqb time later (λ q. z (omega (arith, q)))))

  -- the next record has the same time
  pub hides : (es : List (List ℕ)) (ss : List ℕ) → length es ≡ length ss → gap_in (s ∷ ss) ≡ 0
      → merged (shots_of b (e ∷ es) (times_of time (s ∷ ss))) ≡ merged (shots_of (step_of b e).board es (times_of (time + gap_in (s ∷ ss)) ss))
  unfolding shots_of merged gap_in
  hides es [] h z = absurd (omega (arith, z))
  hides [] (t ∷ ss) h z = absurd (omega (arith, h))
  hides (x ∷ es) (t ∷ ss) h z =
      let later = time + gap_in (s ∷ t ∷ ss) in
      rw (times_next time s (t ∷ ss), times_next later t ss, if_on (time is later) _ _ (eq-eqb time later (omega (arith, z))))

-- ---- the first time: no value is 2, so every line is new
abbrev pub unseen : List ℕ
unseen = replicate 9 2

flag_new : (on : Bool) → (flag on is 2) ≡ false
flag_new true = refl
flag_new false = refl

readies_new : (n character : ℕ) (ps : List Port) → changed_lines character (replicate n 2) (readies n ps) ≡ all_lines character (readies n ps)
unfolding changed_lines all_lines
readies_new zero character ps = refl
readies_new (suc n) character [] = rw (readies_new n (suc character) [])
readies_new (suc n) character (p ∷ ps) = rw (if_off (flag p.ready is 2) _ _ (flag_new p.ready), readies_new n (suc character) ps)

values_new : (size : ℕ) (chips : List Chip) (request : ℕ) → changed_lines identifier unseen (values_of size chips request) ≡ all_lines identifier (values_of size chips request)
unfolding changed_lines all_lines values_of
values_new size chips request =
    rw (if_off (flag (not (request is 0)) is 2) _ _ (flag_new (not (request is 0))), readies_new 8 (suc identifier) (flat (take size chips)))

some_line : (size : ℕ) (chips : List Chip) (request : ℕ) → (length (all_lines identifier (values_of size chips request)) is 0) ≡ false
unfolding all_lines values_of value_line
some_line size chips request = ne_eqb (length (all_lines identifier (values_of size chips request))) 0 (omega arith)

first_frame_is : (time size : ℕ) (chips : List Chip) (request : ℕ) → later_frame time unseen (values_of size chips request) ≡ first_frame time (values_of size chips request)
unfolding later_frame first_frame
first_frame_is time size chips request = rw (values_new size chips request, if_off _ _ _ (some_line size chips request))

single : (s : Shot) (ss : List Shot) → later_frame s.time unseen s.values ≡ first_frame s.time s.values → later_frames unseen (s ∷ ss) ≡ frames (s ∷ ss)
unfolding later_frames frames
single s ss e = rw e

pub first_is : (b : Board) (es : List (List ℕ)) (ts : List ℕ) → later_frames unseen (merged (shots_of b es ts)) ≡ frames (merged (shots_of b es ts))
unfolding shots_of merged later_frames frames
first_is b [] ts = refl
first_is b (e ∷ es) [] = refl
first_is b (e ∷ []) (t ∷ ts) = single (shot_of t (step_of b e)) [] (first_frame_is t _ _ _)
first_is b (e ∷ x ∷ es) (t ∷ []) = single (shot_of t (step_of b e)) [] (first_frame_is t _ _ _)
first_is b (e ∷ x ∷ es) (t ∷ u ∷ ts) =
    by_cases (t is u)
    (λ h. rw (if_on (t is u) _ _ h) (first_is (step_of b e).board (x ∷ es) (u ∷ ts)))
    (λ h. rw (if_off (t is u) _ _ h) (single (shot_of t (step_of b e)) (merged (shots_of (step_of b e).board (x ∷ es) (u ∷ ts))) (first_frame_is t _ _ _)))
