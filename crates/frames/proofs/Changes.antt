-- The lines of the changed values, one value after the other.
-- Assumes nothing.
use Rattle.std.specs.Prelude.{if◌then◌else◌}
use Rattle.std.proofs.Common.{◌≡◌, ℕ, suc, ◌+◌, ◌*◌, ◌<◌, ◌≤◌, true, false, List, [], ◌∷◌, ◌++◌, length, get_or, drop, refl, ◌∙◌, add-one, arith, length-append, drop_of_length-le, drop-cons, eq-eqb, ne_eqb}
use mathlib.Core.Logic.{⊎_elim}
use lib.Dec.{eqb}
use lib.Pointwise.{pointwise}
use Rattle.std.proofs.lemmas.Bool.Decides.{eqb_tells}
use Rattle.bits.specs.Bits.{◌is◌}
use Rattle.bits.proofs.Tests.{if_on, if_off}
use Rattle.buffers.specs.Splice.{if_room, Wrote}
use Rattle.buffers.proofs.Splices.{wrote_all, Writing, writing_part, writing_done}
use Rattle.frames.specs.Frames.{identifier, time_line, value_line, changed_lines, later_frame}

-- the lines from value i on
abbrev pub lines_from : ℕ → List ℕ → List ℕ → List ℕ
lines_from i shown values = changed_lines (33 + i) (drop i shown) (drop i values)

three : (character value : ℕ) → length (value_line character value) ≡ 3
unfolding value_line
three character value = refl

-- no line, where each value is as it was shown, and only there
pub same_lines : (character : ℕ) (shown values : List ℕ) → length shown ≡ length values → (length (changed_lines character shown values) is 0) ≡ pointwise eqb values shown
unfolding changed_lines
same_lines character [] [] e = refl
same_lines character [] (v ∷ vs) e = absurd (omega (arith, e))
same_lines character (s ∷ ss) [] e = absurd (omega (arith, e))
same_lines character (s ∷ ss) (v ∷ vs) e =
    let line = value_line character v in
    let more = changed_lines (suc character) ss vs in
    ⊎_elim
    (λ same. rw same.0 (same_lines (suc character) ss vs (omega (arith, e))))
    (λ other. rw other.0 (ne_eqb (length (line ++ more)) 0 (omega (arith, length-append line more, three character v))))
    (eqb_tells v s)

-- ---- the text of a time, by whether a value has changed
pub no_frame : (time : ℕ) (shown values : List ℕ) → length shown ≡ length values → pointwise eqb values shown ≡ true → later_frame time shown values ≡ []
unfolding later_frame
no_frame time shown values long e = if_on _ _ _ (same_lines identifier shown values long ∙ e)

pub frame : (time : ℕ) (shown values : List ℕ) → length shown ≡ length values → pointwise eqb values shown ≡ false
    → later_frame time shown values ≡ time_line time ++ changed_lines identifier shown values
unfolding later_frame
frame time shown values long e = if_off _ _ _ (same_lines identifier shown values long ∙ e)

module _ (shown values : List ℕ) (s : length shown ≡ 9) (v : length values ≡ 9) where
  next_line : (i : ℕ) → i < 9 → lines_from i shown values ≡ (if get_or values i 0 is get_or shown i 0 then [] else value_line (33 + i) (get_or values i 0)) ++ lines_from (i + 1) shown values
  unfolding changed_lines
  next_line i h =
      let e : suc (33 + i) ≡ 33 + (i + 1) = omega arith in
      let old : drop i shown ≡ get_or shown i 0 ∷ drop (i + 1) shown = rw add-one (drop-cons shown i 0 (omega arith)) in
      let new : drop i values ≡ get_or values i 0 ∷ drop (i + 1) values = rw add-one (drop-cons values i 0 (omega arith)) in
      rw (old, new, e)

  pub unchanged : (i : ℕ) → i < 9 → get_or values i 0 ≡ get_or shown i 0 → lines_from i shown values ≡ lines_from (i + 1) shown values
  unchanged i h e = rw (next_line i h, if_on _ _ _ (eq-eqb _ _ e))

  changed : (i : ℕ) → i < 9 → (get_or values i 0 ≡ get_or shown i 0 → ⊥) → lines_from i shown values ≡ value_line (33 + i) (get_or values i 0) ++ lines_from (i + 1) shown values
  changed i h e = rw (next_line i h, if_off _ _ _ (ne_eqb _ _ e))

  pub no_lines : (i : ℕ) → 9 ≤ i → lines_from i shown values ≡ []
  unfolding changed_lines
  no_lines i h = let all : length shown ≤ i = omega arith in rw (drop_of_length-le shown all)

  -- ---- where the writer of the changed values stands before value i
  pub record Changing (old : List ℕ) (at : ℕ) (out : List ℕ) (next i : ℕ) : Type 0 where
    pub within : i ≤ 9
    pub room : next ≤ at + 3 * i
    pub rest : Writing old at (changed_lines 33 shown values) out next (lines_from i shown values)

  -- the value is as it was shown
  pub pass : {old out : List ℕ} {at next i : ℕ} → i < 9 → Changing old at out next i → get_or values i 0 ≡ get_or shown i 0
      → Changing old at out next (i + 1)
  pass {old} {out} {at} {next} {i} h w e =
      record { within = omega arith; room = omega (arith, w.room); rest = rw (← unchanged i h e) w.rest }

  -- its line was written
  pub put : {old out m : List ℕ} {at next n i : ℕ} → i < 9 → at + 27 ≤ length old → Changing old at out next i → (get_or values i 0 ≡ get_or shown i 0 → ⊥)
      → Wrote out next (if_room out next 3 (value_line (33 + i) (get_or values i 0))) m n → Changing old at m n (i + 1)
  put {old} {out} {m} {at} {next} {n} {i} h fits w e wrote =
      let line = wrote_all 3 (omega (arith, w.rest.long, w.room)) wrote in
      let end : n ≤ next + 3 = omega (arith, line.ends, three (33 + i) (get_or values i 0)) in
      record {
        within = omega arith;
        room = omega (arith, w.room);
        rest = writing_part w.rest (changed i h e) line (omega (arith, w.rest.long, w.room));
      }

  pub done : {old out : List ℕ} {at next i : ℕ} → Changing old at out next i → 9 ≤ i
      → (Wrote old at (changed_lines 33 shown values) out next) × (next ≤ at + 27)
  done {old} {out} {at} {next} {i} w h = (writing_done w.rest (no_lines i h), omega (arith, w.room, w.within))
