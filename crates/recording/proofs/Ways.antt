-- The ways out of `export`.
-- Assumes nothing.
use mathlib.Core.Path.{◌≡◌, refl, sym, ap, ◌∙◌}
use mathlib.Core.Bool.{Bool, true, false, not, true≢false}
use mathlib.Core.List.{List, [], ◌∷◌, ◌++◌}
use Rattle.std.specs.Prelude.{Result, Ok, Err, if◌then◌else◌}
use Prim.Native.Nat.{ℕ, ◌+◌, ◌*◌, ◌/◌, ◌%◌, ◌≤◌, ◌<◌}
use native.Mathlib.Omega.{arith}
use lib.Dec.{ltb}
use lib.ListN.{length}
use borrow.Author.Tests.{lt-ltb, eq-eqb, ne_eqb, le-ltb, ltb-true}
use Rattle.bits.specs.Bits.{◌is◌}
use Rattle.buffers.specs.Splice.{splice}
use Rattle.refusals.specs.declared.Refusal.{Refusal}
use Rattle.refusals.specs.declared.Refusal.TheVariants.{Length, Unsound, Records, Stamps, Text}
use Rattle.refusals.specs.Numbers.{number_of, code_of}
use Rattle.board.specs.declared.Board.{Board}
use Rattle.board.specs.Board.{sound_board}
use Rattle.board.specs.Step.{line, verdict}
use Rattle.board.specs.Halves.{seen_of}
use Rattle.board.proofs.Ways.{seen_err}
use Rattle.records.specs.Records.{records, steps_of}
use Rattle.recording.specs.Wave.{exported_by, wave_text, checked_of, refusal_of, wave_refusal, exported_of, page_of}
use Rattle.recording.proofs.Bounds.{wave_bound}

-- ---- the refusals in the code's types, by their tests
abbrev Checked : Type 0
Checked = Result (Unit {0}) Refusal

-- `long`: the text is longer than the buffer
abbrev by_tests : Bool → Bool → Bool → Bool → Checked
by_tests uneven many stamps long = if uneven then Err Length else if many then Err Records else if stamps then Err Stamps else if long then Err Text else Ok tt

coded : (p q r s : Bool) → code_of (by_tests p q r s) ≡ verdict (line false 35 ∷ line p 32 ∷ line q 36 ∷ line r 41 ∷ line s 40 ∷ [])
coded true q r s = refl
coded false true r s = refl
coded false false true s = refl
coded false false false true = refl
coded false false false false = refl

-- a refusal that does not wait for the text: with a longer text it is the same
sooner : (p q r s t : Bool) (x : Refusal) → (s ≡ true → t ≡ true) → Err x ≡ by_tests p q r s → (Err x ≡ by_tests p q r t) × (code_of (by_tests p q r t) ≡ 0 → ⊥)
sooner true q r s t x f e = (e, λ z. absurd (omega (arith, z)))
sooner false true r s t x f e = (e, λ z. absurd (omega (arith, z)))
sooner false false true s t x f e = (e, λ z. absurd (omega (arith, z)))
sooner false false false true true x f e = (e, λ z. absurd (omega (arith, z)))
sooner false false false true false x f e = absurd (true≢false (sym (f refl)))
sooner false false false false t x f e = absurd cc

-- ---- the ways out of `export`
-- a part of no bytes was lent, and the buffer is as it was
pub unmoved : (m old : List ℕ) → length m ≡ 0 → m ++ old ≡ old
unmoved [] old h = refl
unmoved (x ∷ m) old h = absurd (omega (arith, h))

module _ (b : Board) (es ss old : List ℕ) where
  abbrev text : ℕ
  text = length (wave_text b es ss)

  abbrev Out : Board → Result ℕ Refusal → List ℕ → Type 0
  Out after r out = (exported_by after r ≡ exported_of b es ss (length old)) × (out ≡ page_of b es ss old)

  -- the tests at a text of so many bytes
  abbrev checked : ℕ → Checked
  checked n = by_tests (not (length es % 4 is 0)) (ltb 16384 (length es / 4)) (not (length ss is 2 * (length es / 4))) (ltb (length old) n)

  refused : (r : Refusal) → (number_of r ≡ 0 → ⊥) → number_of r ≡ wave_refusal b es ss (length old) → Out b (Err r) old
  unfolding exported_of page_of
  refused r z e = (rw (← e, ne_eqb (number_of r) 0 z), rw (← e, ne_eqb (number_of r) 0 z))

  pub unsound_refused : (r : Refusal) → Err r ≡ seen_of b → Out b (Err r) old
  unfolding refusal_of
  unsound_refused r e = let u = seen_err b r e in rw u.1 (refused Unsound (λ (z : 35 ≡ 0). absurd (omega (arith, z))) (rw u.0))

  module _ (s : sound_board b ≡ true) where
    code_is : (n : ℕ) → code_of (checked n) ≡ refusal_of (sound_board b) (length es) (length ss) n (length old)
    unfolding refusal_of
    code_is n = rw s (coded _ _ _ _)

    -- refused before the text is known, which is no shorter
    pub early_refused : (r : Refusal) (n : ℕ) → n ≤ text → Err r ≡ checked_of (length es) (length ss) n (length old) → Out b (Err r) old
    unfolding checked_of
    early_refused r n short e =
        let same =
        sooner _ _ _ (ltb (length old) n) (ltb (length old) text) r (λ t. lt-ltb (length old) text (omega (arith, short, ltb-true (length old) n t))) e
        in
        let number : number_of r ≡ code_of (checked text) = ap code_of same.0 in
        refused r (λ z. same.1 (sym number ∙ z)) (number ∙ code_is text)

    module _ (g : (length es % 4 ≡ 0) × ((length es / 4 ≤ 16384) × (length ss ≡ 2 * (length es / 4)))) where
      no_refusal : text ≤ length old → wave_refusal b es ss (length old) ≡ 0
      no_refusal h =
          let passes : checked text ≡ Ok tt =
          rw (eq-eqb (length es % 4) 0 g.0, le-ltb 16384 (length es / 4) g.1.0, eq-eqb (length ss) (2 * (length es / 4)) g.1.1, le-ltb (length old) text h)
          in
          sym (code_is text) ∙ ap code_of passes

      pub long_refused : length old < text → Out b (Err Text) old
      long_refused h =
          let fails : checked text ≡ Err Text =
          rw (eq-eqb (length es % 4) 0 g.0, le-ltb 16384 (length es / 4) g.1.0, eq-eqb (length ss) (2 * (length es / 4)) g.1.1, lt-ltb (length old) text h)
          in
          refused Text (λ (z : 40 ≡ 0). absurd (omega (arith, z))) (sym (ap code_of fails) ∙ code_is text)

      pub exported : text ≤ length old → (after : Board) (n : ℕ) (out : List ℕ) → after ≡ steps_of b (records es) → n ≡ text
          → (n ≤ length old → out ≡ splice old 0 (wave_text b es ss)) → Out after (Ok n) out
      unfolding exported_of page_of
      exported h after n out e f w = let none = no_refusal h in (rw (none, e, f), rw (none, w (omega (arith, h, f))))

      -- a buffer that needs no measure
      pub roomy : 257 + 39 * (length es / 4) ≤ length old → text ≤ length old
      roomy h = omega (arith, h, wave_bound b es ss g.1.0 g.1.1)
