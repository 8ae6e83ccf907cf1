-- The ways out of `make_text`, and the refusal that never comes. Assumes nothing.
use Rattle.std.specs.Prelude.{Result, Ok, Err, IfOk}
use mathlib.Core.Path.{◌≡◌, refl, ◌∙◌}
use mathlib.Core.Bool.{Bool, true, false, not}
use mathlib.Core.List.{List, [], ◌∷◌}
use Prim.Native.Nat.{ℕ, ◌*◌, ◌/◌, ◌%◌, ◌≤◌}
use native.Mathlib.Omega.{arith}
use lib.Dec.{ltb}
use lib.ListN.{length}
use borrow.Author.Tests.{ne_eqb, eqb-true, ltb-false}
use Rattle.bits.specs.Bits.{◌is◌}
use Rattle.bits.proofs.Logic.{by_cases}
use Rattle.refusals.specs.declared.Refusal.{Refusal}
use Rattle.refusals.specs.Numbers.{number_of}
use Rattle.refusals.proofs.Refused.{refused}
use Rattle.board.specs.declared.Board.{Board}
use Rattle.board.specs.Board.{size_ok, sound_board, blank_board, made_by, fresh_of}
use Rattle.board.specs.Step.{Line, line, verdict}
use Rattle.recording.specs.Wave.{wave_text, refusal_of, wave_refusal, exported_of, exported_by, page_of}
use Rattle.recording.proofs.Bounds.{never_forty}
use Rattle.wave.specs.Text.{code_and_length, waved_by, wave_of, buffer_of}

-- an accepted export has room for its text
none : (p q r s t : Bool) → verdict (line p 35 ∷ line q 32 ∷ line r 36 ∷ line s 41 ∷ line t 40 ∷ []) ≡ 0 → t ≡ false
none true q r s t e = absurd (omega (arith, e))
none false true r s t e = absurd (omega (arith, e))
none false false true s t e = absurd (omega (arith, e))
none false false false true t e = absurd (omega (arith, e))
none false false false false true e = absurd (omega (arith, e))
none false false false false false e = refl

fits : (b : Board) (events stamps : List ℕ) (room : ℕ) → (exported_of b events stamps room).length ≤ room
unfolding exported_of refusal_of
fits b events stamps room =
    let long = length (wave_text b events stamps) in
    by_cases (wave_refusal b events stamps room is 0)
    (λ z. rw z (ltb-false room long (none (not (sound_board b)) (not (length events % 4 is 0)) (ltb 16384 (length events / 4)) (not (length stamps is 2 * (length events / 4))) (ltb room long) (eqb-true _ 0 z))))
    (λ z. rw z (omega arith))

-- what an export answers, and what the program makes of it
same : (b : Board) (r : Result ℕ Refusal) → waved_by r ≡ code_and_length (exported_by b r)
same b (Ok n) = refl
same b (Err r) = refl

short : (b : Board) (r : Result ℕ Refusal) (room : ℕ) → (exported_by b r).length ≤ room → IfOk r (λ n. n ≤ room)
short b (Ok n) room h = h
short b (Err r) room h = tt

module _ (size : ℕ) (events stamps old : List ℕ) where
  abbrev Out : Result ℕ Refusal → List ℕ → Type 0
  Out r out = (waved_by r ≡ wave_of size events stamps (length old)) × ((out ≡ buffer_of size events stamps old) × IfOk r (λ n. n ≤ length old))

  pub no_board : (r : Refusal) → made_by (Err r) ≡ fresh_of size → Out (Err r) old
  unfolding wave_of buffer_of
  no_board r e = let z = ne_eqb (number_of r) 0 (refused r) in (rw (← e, z), (rw (← e, z), tt))

  pub exported : {b : Board} {out : List ℕ} (b' : Board) (r : Result ℕ Refusal) → made_by (Ok b) ≡ fresh_of size
      → exported_by b' r ≡ exported_of b events stamps (length old) → out ≡ page_of b events stamps old → Out r out
  unfolding wave_of buffer_of
  exported {b} {out} b' r e d p =
      (same b' r ∙ rw (← e, d), (rw (← e, p), short b' r (length old) (rw d (fits b events stamps (length old)))))

-- ---- the page has room for the text of any recording, so 40 never comes
many : (p q : Bool) (l : List Line) → verdict (line p 35 ∷ line q 32 ∷ line true 36 ∷ l) ≡ 40 → ⊥
many true q l e = absurd (omega (arith, e))
many false true l e = absurd (omega (arith, e))
many false false l e = absurd (omega (arith, e))

roomy : (b : Board) (events stamps : List ℕ) → (exported_of b events stamps 639233).code ≡ 40 → ⊥
unfolding exported_of refusal_of
roomy b events stamps e =
    by_cases (ltb 16384 (length events / 4))
    (λ z.
    by_cases (wave_refusal b events stamps 639233 is 0)
    (λ y. absurd (omega (arith, rw y at e)))
    (λ y. many (not (sound_board b)) (not (length events % 4 is 0)) _ (rw z at (rw y at e))))
    (λ z. never_forty b events stamps 639233 (omega (arith, ltb-false 16384 (length events / 4) z)) e)

pub never : (size : ℕ) (events stamps : List ℕ) → (wave_of size events stamps 639233).code ≡ 40 → ⊥
unfolding wave_of fresh_of
never size events stamps e =
    by_cases (size_ok size)
    (λ z. roomy (blank_board size) events stamps (rw z at e))
    (λ z. absurd (omega (arith, rw z at e)))
