-- A piece of the input: its whole records are run, and the buffer of answers then holds what the listing's text is made of.
-- Assumes nothing.
use Rattle.std.proofs.Common.{◌≡◌, ℕ, suc, ◌+◌, ◌*◌, ◌/◌, ◌%◌, ◌≤◌, true, List, [], ◌∷◌, length, get_or, take, drop, refl, ap, ◌∙◌, arith, length-take-le, take_at, w8, Fits, le-ltb, lt-ltb, eq-eqb, Ok, Err}
use Rattle.std.specs.Prelude.{Result, IsOk}
use Rattle.refusals.specs.declared.Refusal.{Refusal}
use Rattle.refusals.proofs.Refused.{refused}
use Rattle.buffers.specs.Splice.{splice, if_room, Wrote}
use Rattle.buffers.proofs.Splices.{wrote_all, wrote_then, wrote_length}
use Rattle.board.specs.declared.Board.{Board}
use Rattle.chip.proofs.Keep.{fresh_sound}
use Rattle.board.specs.Board.{Made, sound_board, made_by, fresh_of}
use Rattle.board.specs.Step.{step_of}
use Rattle.board.proofs.Quick.{step_sound}
use Rattle.records.specs.Records.{records, steps_of, answers_of}
use Rattle.records.proofs.Whole.{records_length, answers_length}
use Rattle.run.specs.Run.{Ran, refusal_of, ran_by, ran_of, buffer_of}
use Rattle.text.specs.Listing.{listing_of, tail_of}
use Rattle.listing.specs.Text.{text_of}

-- ---- the records of some bytes
-- a byte more or less at the end makes no other records, if no record is whole by it
pub records_whole : (es : List ℕ) → records (take (4 * (length es / 4)) es) ≡ records es
unfolding records
records_whole [] = refl
records_whole (a ∷ []) = refl
records_whole (a ∷ b ∷ []) = refl
records_whole (a ∷ b ∷ c ∷ []) = refl
records_whole (a ∷ b ∷ c ∷ d ∷ rest) =
    let e : 4 * (suc (suc (suc (suc (length rest)))) / 4) ≡ suc (suc (suc (suc (4 * (length rest / 4))))) = omega arith in
    rw (e, records_whole rest)

-- bytes leave the board sound
pub stays_sound : (b : Board) (es : List ℕ) → ((i : ℕ) → Fits w8 (get_or es i 0)) → sound_board b ≡ true → sound_board (steps_of b (records es)) ≡ true
unfolding records steps_of
stays_sound b [] bytes s = s
stays_sound b (k ∷ []) bytes s = s
stays_sound b (k ∷ p ∷ []) bytes s = s
stays_sound b (k ∷ p ∷ v ∷ []) bytes s = s
stays_sound b (k ∷ p ∷ v ∷ z ∷ rest) bytes s =
    let e = k ∷ p ∷ v ∷ z ∷ [] in
    stays_sound (step_of b e).board rest (λ i. bytes (suc (suc (suc (suc i))))) (step_sound b e (lt-ltb v 256 (omega (arith, bytes 2))) s)

-- ---- what is not refused is there
pub made : (r : Result Board Refusal) → made_by r ≡ fresh_of 4 → IsOk r
unfolding fresh_of
made (Ok b) e = refl
made (Err r) e = absurd (refused r (ap (λ (x : Made). x.code) e))

pub made_sound : (b : Board) → made_by (Ok b) ≡ fresh_of 4 → sound_board b ≡ true
unfolding fresh_of sound_board
made_sound b e = rw (ap (λ (x : Made). x.board) e) (rw fresh_sound)

module _ (b : Board) (es old : List ℕ) (sound : sound_board b ≡ true) (fits : length es ≤ length old) where
  abbrev whole : List ℕ
  whole = take (4 * (length es / 4)) es

  whole_length : length whole ≡ 4 * (length es / 4)
  whole_length = length-take-le (4 * (length es / 4)) es (omega arith)

  -- the run takes them
  accepted : refusal_of (sound_board b) (length whole) (length old) 0 ≡ 0
  unfolding refusal_of
  accepted =
      rw (
        sound,
        eq-eqb (length whole % 4) 0 (omega (arith, whole_length)),
        le-ltb (length old / 4) (0 + length whole / 4) (omega (arith, whole_length)),
      )

  ran : ran_of b whole old 0 ≡ record { code = 0; records = length es / 4; board = steps_of b (records es) }
  unfolding ran_of
  ran = let n : length whole / 4 ≡ length es / 4 = omega (arith, whole_length) in rw (accepted, n, records_whole es) refl

  pub taken : (b' : Board) (r : Result ℕ Refusal) → ran_by b' r ≡ ran_of b whole old 0 → IsOk r
  taken b' (Ok n) e = refl
  taken b' (Err r) e = absurd (refused r (ap (λ (x : Ran). x.code) (e ∙ ran)))

  pub after : (b' : Board) (n : ℕ) → ran_by b' (Ok n) ≡ ran_of b whole old 0 → (n ≡ length es / 4) × (b' ≡ steps_of b (records es))
  after b' n e = (ap (λ (x : Ran). x.records) (e ∙ ran), ap (λ (x : Ran). x.board) (e ∙ ran))

  abbrev answers : List ℕ
  answers = answers_of b (records es)

  answers_long : length answers ≡ 4 * (length es / 4)
  answers_long = answers_length b (records es) ∙ ap (λ (n : ℕ). 4 * n) (records_length es)

  -- and the buffer's first bytes are the answers
  pub answered : take (4 * (length es / 4)) (buffer_of b whole old 0) ≡ answers
  unfolding buffer_of splice
  answered = rw (accepted, records_whole es) (take_at answers (drop (0 + length answers) old) (4 * (length es / 4)) answers_long)

  -- the lines and the tail behind them are the listing's text
  pub listed : {out m m' : List ℕ} {at n : ℕ} (number : ℕ) → 105 * (length es / 4) + 26 ≤ length out
      → Wrote out 0 (if_room out 0 (105 * (length answers / 4)) (listing_of number answers)) m at → at ≤ 0 + 105 * (length answers / 4)
      → Wrote m at (if_room m at 26 (tail_of (length es))) m' n → n ≤ at + 26
      → Wrote out 0 (text_of b number es) m' n
  unfolding text_of
  listed {out} {m} {m'} {at} {n} number room lines few tail fewer =
      let put = wrote_all (105 * (length answers / 4)) (omega (arith, answers_long)) lines in
      let long = wrote_length put (omega (arith, answers_long)) in
      wrote_then (omega arith) put (wrote_all 26 (omega (arith, answers_long)) tail)
