-- Demand 1, of the step and of the run.
-- Assumes nothing.
use mathlib.Core.Path.{◌≡◌, refl, sym, ap, ◌∙◌}
use mathlib.Core.Bool.{true, false, not, true≢false}
use mathlib.Core.List.{List}
use Prim.Native.Nat.{ℕ, ◌+◌, ◌*◌, ◌/◌, ◌≤◌}
use native.Mathlib.Omega.{arith}
use lib.Dec.{ltb}
use lib.ListN.{length}
use borrow.Author.Tests.{eqb-true, eqb-false, eq-eqb, ne_eqb, ltb-true, ltb-false, not-true}
use Rattle.bits.specs.Bits.{◌is◌}
use Rattle.bits.proofs.Logic.{by_cases, both}
use Rattle.buffers.specs.Splice.{splice}
use Rattle.buffers.proofs.Splices.{length_splice}
use Rattle.board.specs.declared.Board.{Board}
use Rattle.board.specs.Board.{sound_board}
use Rattle.board.specs.Step.{Line, lines, refusal, refused, step_of}
use Rattle.records.specs.Records.{records, steps_of, answers_of}
use Rattle.records.proofs.Whole.{records_length, answers_length}
use Rattle.run.specs.Run.{Ran, run_lines, refusal_of, run_refusal, ran_of, buffer_of}
use Rattle.demands.specs.Words.{step_codes, run_codes, listed, decides}
use Rattle.demands.specs.Demands.{Answered, FourBytes, NotFourBytes, AnsweredRun, EveryRun}
use Rattle.demands.proofs.Refusals.{verdict_each, verdict_decides, verdict_none, none_drop, step_refused, accepted_code, refused_code, refused_each}

pub not_four_bytes : NotFourBytes
unfolding step_of
not_four_bytes b e h = rw h

-- ---- a step of four bytes
module _ (b : Board) (e : List ℕ) (four : length e ≡ 4) where
  by_its_line : (c : ℕ) → 16 ≤ c → (refusal b e is c) ≡ decides c (lines b e)
  unfolding refusal
  by_its_line c l = verdict_decides (lines b e) refl c (omega arith)

  when_accepted : (refusal b e is 0) ≡ true → Answered b e
  when_accepted h =
      let code = (step_of b e).answer.code in
      let small = ltb-true code 16 (accepted_code b e four (λ n. ltb n 16) refl h) in
      let none = eqb-true (refusal b e) 0 h in
      record {
        known = accepted_code b e four (λ n. listed n step_codes) refl h;
        ordered = λ c l. ne_eqb code c (λ i. omega (arith, i)) ∙ sym (ne_eqb (refusal b e) c (λ i. omega (arith, i))) ∙ by_its_line c l;
        unchanged = λ l. absurd (omega arith);
      }

  when_refused : (refusal b e is 0) ≡ false → Answered b e
  unfolding refused
  when_refused h = record {
    known = refused_each b e four (λ n. listed n step_codes) refl h;
    ordered = λ c l. rw (refused_code b e four h) (by_its_line c l);
    unchanged = λ l. rw (step_refused b e four h);
  }

pub four_bytes : FourBytes
four_bytes b e four = by_cases (refusal b e is 0) (when_accepted b e four) (when_refused b e four)

-- ---- the run
module _ (b : Board) (es old : List ℕ) (start : ℕ) where
  abbrev why : ℕ
  why = run_refusal b (length es) (length old) start

  abbrev table : List Line
  table = run_lines (sound_board b) (length es) (length old) start

  by_run_line : (c : ℕ) → 1 ≤ c → (why is c) ≡ decides c table
  unfolding refusal_of
  by_run_line c l = verdict_decides table refl c l

  -- there is room for the answers
  fits : (why is 0) ≡ true → 4 * start + length (answers_of b (records es)) ≤ length old
  unfolding refusal_of
  fits h =
      let short = ltb (length old / 4) (start + length es / 4) in
      let room = not-true short (both (not short) true (none_drop 2 table (verdict_none table refl h))).0 in
      omega (arith, ltb-false (length old / 4) (start + length es / 4) room, answers_length b (records es), records_length es)

  pub done_fits : (ran_of b es old start).code ≡ 0 → 4 * start + length (answers_of b (records es)) ≤ length old
  unfolding ran_of
  done_fits z = by_cases (why is 0) fits (λ h. absurd (eqb-false why 0 h (rw h at z)))

  ran_done : (why is 0) ≡ true → ran_of b es old start ≡ record { code = 0; records = length (records es); board = steps_of b (records es) }
  unfolding ran_of
  ran_done h = rw (h, records_length es)

  buffer_done : (why is 0) ≡ true → buffer_of b es old start ≡ splice old (4 * start) (answers_of b (records es))
  unfolding buffer_of
  buffer_done h = rw h

  when_done : (why is 0) ≡ true → AnsweredRun b es old start
  when_done h =
      let none = eqb-true why 0 h in
      let code = ap (λ (r : Ran). r.code) (ran_done h) in
      record {
        known = rw (ran_done h);
        ordered = λ c l. rw (ran_done h) (ap (λ (n : ℕ). n is c) (sym none) ∙ by_run_line c l);
        unchanged = λ l. absurd (omega arith);
        done = λ z. (ran_done h, buffer_done h, rw (buffer_done h) (length_splice old (4 * start) (answers_of b (records es)) (fits h)));
      }

  ran_refused : (why is 0) ≡ false → ran_of b es old start ≡ record { code = why; records = 0; board = b }
  unfolding ran_of
  ran_refused h = rw h

  buffer_refused : (why is 0) ≡ false → buffer_of b es old start ≡ old
  unfolding buffer_of
  buffer_refused h = rw h

  refused_known : (why is 0) ≡ false → listed why run_codes ≡ true
  unfolding refusal_of
  refused_known h = verdict_each (λ n. listed n run_codes) table refl h

  when_run_refused : (why is 0) ≡ false → AnsweredRun b es old start
  when_run_refused h = record {
    known = rw (ran_refused h) (refused_known h);
    ordered = λ c l. rw (ran_refused h) (by_run_line c l);
    unchanged = λ l. (rw (ran_refused h), buffer_refused h);
    done = λ z. absurd (true≢false (sym (eq-eqb why 0 (rw (ran_refused h) at z)) ∙ h));
  }

pub every_run : EveryRun
every_run b es old start = by_cases (why b es old start is 0) (when_done b es old start) (when_run_refused b es old start)
