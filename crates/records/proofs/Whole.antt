-- How many records and answers there are, and that a run over two halves is the run over the whole: the board and the answers of the
-- events one after the other.
-- Assumes nothing.
use mathlib.Core.Path.{◌≡◌, refl, sym, ap, ◌∙◌}
use mathlib.Core.List.{List, [], ◌∷◌, ◌++◌}
use Prim.Native.Nat.{ℕ, ◌*◌, ◌/◌, ◌%◌}
use native.Mathlib.Omega.{arith}
use lib.ListN.{length}
use Rattle.board.specs.declared.Board.{Board}
use Rattle.board.specs.Step.{bytes_of, step_of}
use Rattle.records.specs.Records.{records, steps_of, answers_of}

pub records_length : (es : List ℕ) → length (records es) ≡ length es / 4
unfolding records
records_length [] = refl
records_length (a ∷ []) = refl
records_length (a ∷ b ∷ []) = refl
records_length (a ∷ b ∷ c ∷ []) = refl
records_length (a ∷ b ∷ c ∷ d ∷ rest) = omega (arith, records_length rest)

pub answers_length : (b : Board) (rs : List (List ℕ)) → length (answers_of b rs) ≡ 4 * length rs
unfolding answers_of bytes_of
answers_length b [] = refl
answers_length b (r ∷ rs) = omega (arith, answers_length (step_of b r).board rs)

append_assoc : (x y z : List ℕ) → (x ++ y) ++ z ≡ x ++ (y ++ z)
append_assoc [] y z = refl
append_assoc (a ∷ x) y z = rw (append_assoc x y z)

pub steps_whole : (b : Board) (xs ys : List (List ℕ)) → steps_of b (xs ++ ys) ≡ steps_of (steps_of b xs) ys
unfolding steps_of
steps_whole b [] ys = refl
steps_whole b (x ∷ xs) ys = steps_whole (step_of b x).board xs ys

pub answers_whole : (b : Board) (xs ys : List (List ℕ)) → answers_of b (xs ++ ys) ≡ answers_of b xs ++ answers_of (steps_of b xs) ys
unfolding steps_of answers_of
answers_whole b [] ys = refl
answers_whole b (x ∷ xs) ys =
    ap (λ (l : List ℕ). bytes_of (step_of b x).answer ++ l) (answers_whole (step_of b x).board xs ys)
    ∙ sym (append_assoc (bytes_of (step_of b x).answer) (answers_of (step_of b x).board xs) (answers_of (steps_of (step_of b x).board xs) ys))

-- the records of two recordings, the first of whole records, put together
pub records_whole : (xs ys : List ℕ) → length xs % 4 ≡ 0 → records (xs ++ ys) ≡ records xs ++ records ys
unfolding records
records_whole [] ys h = refl
records_whole (a ∷ []) ys h = absurd (omega (arith, h))
records_whole (a ∷ b ∷ []) ys h = absurd (omega (arith, h))
records_whole (a ∷ b ∷ c ∷ []) ys h = absurd (omega (arith, h))
records_whole (a ∷ b ∷ c ∷ d ∷ xs) ys h = rw (records_whole xs ys (omega (arith, h)))
