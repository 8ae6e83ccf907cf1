-- One turn of a run, and its end: what the loop's proof cites.
-- Assumes nothing.
use mathlib.Core.Path.{◌≡◌, refl, sym, ap, ◌∙◌}
use mathlib.Core.List.{List, [], ◌∷◌}
use Prim.Native.Nat.{ℕ, ◌+◌, ◌*◌, ◌≤◌, ◌<◌}
use native.Mathlib.Nat.{not-suc-le-zero, le_of_suc-le-suc, add-zero}
use native.Mathlib.Omega.{arith}
use lib.ListN.{length, take, drop, length-drop}
use lib.Seq.{drop-drop}
use Rattle.buffers.specs.Splice.{splice}
use Rattle.buffers.proofs.Splices.{splice_next, splice_none, length_splice}
use Rattle.board.specs.declared.Board.{Board}
use Rattle.board.specs.Step.{bytes_of, Stepped, step_of}
use Rattle.records.specs.Records.{records, steps_of, answers_of}

-- ---- records
-- four bytes or more: the first record, and the records of the rest
first : (es : List ℕ) → 4 ≤ length es → records es ≡ take 4 es ∷ records (drop 4 es)
unfolding records
first [] h = absurd (not-suc-le-zero h)
first (a ∷ []) h = absurd (not-suc-le-zero (le_of_suc-le-suc h))
first (a ∷ b ∷ []) h = absurd (not-suc-le-zero (le_of_suc-le-suc (le_of_suc-le-suc h)))
first (a ∷ b ∷ c ∷ []) h = absurd (not-suc-le-zero (le_of_suc-le-suc (le_of_suc-le-suc (le_of_suc-le-suc h))))
first (a ∷ b ∷ c ∷ d ∷ rest) h = refl

-- before record i
pub next : (es : List ℕ) (i : ℕ) → 4 * i + 4 ≤ length es → records (drop (4 * i) es) ≡ take 4 (drop (4 * i) es) ∷ records (drop (4 * (i + 1)) es)
next es i h =
    let e : 4 * i + 4 ≡ 4 * (i + 1) = omega arith in
    rw (first (drop (4 * i) es) (omega (arith, length-drop (4 * i) es)), drop-drop, e)

short : (es : List ℕ) → length es < 4 → records es ≡ []
unfolding records
short [] h = refl
short (a ∷ []) h = refl
short (a ∷ b ∷ []) h = refl
short (a ∷ b ∷ c ∷ []) h = refl
short (a ∷ b ∷ c ∷ d ∷ rest) h = absurd (not-suc-le-zero (le_of_suc-le-suc (le_of_suc-le-suc (le_of_suc-le-suc (le_of_suc-le-suc h)))))

pub none : (es : List ℕ) (i : ℕ) → length es < 4 * i + 4 → records (drop (4 * i) es) ≡ []
none es i h = short (drop (4 * i) es) (omega (arith, length-drop (4 * i) es))

-- ---- where the loop stands before record i, with the board that its locals hold: the rest of the run, from here, comes to the whole run
module _ (es old : List ℕ) (start : ℕ) (b₀ : Board) (n : ℕ) where
  pub record Running (out : List ℕ) (b : Board) (i : ℕ) : Type 0 where
    pub within : i ≤ n
    pub long : length out ≡ length old
    pub board : steps_of b (records (drop (4 * i) es)) ≡ steps_of b₀ (records es)
    pub bytes : splice out (4 * (start + i)) (answers_of b (records (drop (4 * i) es))) ≡ splice old (4 * start) (answers_of b₀ (records es))

  pub begin : Running old b₀ 0
  begin = record { within = omega arith; long = refl; board = refl; bytes = simp add-zero }

  -- a turn: the record is stepped, and its answer is written
  pub turn : {out : List ℕ} {b : Board} {i : ℕ} (r : Stepped) (out' : List ℕ) → Running out b i → i < n → 4 * n ≤ length es
      → 4 * (start + n) ≤ length old → r ≡ step_of b (take 4 (drop (4 * i) es)) → out' ≡ splice out (4 * (start + i)) (bytes_of r.answer)
      → Running out' r.board (i + 1)
  unfolding steps_of answers_of bytes_of
  turn {out} {b} {i} r out' w h he ho er eo =
      let rest = records (drop (4 * (i + 1)) es) in
      let more = next es i (omega arith) in
      let p : 4 * (start + i) + 4 ≡ 4 * (start + (i + 1)) = omega arith in
      record {
        within = omega arith;
        long = ap length eo ∙ length_splice out (4 * (start + i)) (bytes_of r.answer) (omega (arith, w.long)) ∙ w.long;
        board = rw (er, ← w.board, more);
        bytes = rw (eo, splice_next out (4 * (start + i)) (bytes_of r.answer) (answers_of r.board rest) (4 * (start + (i + 1))) (omega (arith, w.long)) p, er, ← w.bytes, more);
      }

  -- the end: nothing is left
  pub done : {out : List ℕ} {b : Board} {i : ℕ} → Running out b i → n ≤ i → length es ≤ 4 * n
      → (b ≡ steps_of b₀ (records es)) × (out ≡ splice old (4 * start) (answers_of b₀ (records es)))
  unfolding steps_of answers_of
  done {out} {b} {i} w h he =
      let e = none es i (omega arith) in
      (rw (e) at w.board, sym (splice_none out (4 * (start + i))) ∙ (rw (e) at w.bytes))
