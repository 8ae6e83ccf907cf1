-- The number of a run's records, and the ways out of a run.
-- Assumes nothing.
use Rattle.std.specs.Prelude.{Ok, Err}
use Rattle.std.specs.Result.{is_ok}
use mathlib.Core.Path.{◌≡◌, sym, ap}
use mathlib.Core.Bool.{true, true≢false}
use mathlib.Core.List.{List}
use Prim.Native.Nat.{ℕ, ◌+◌, ◌*◌, ◌/◌, ◌%◌, ◌≤◌, ◌<◌}
use lib.Dec.{ltb}
use lib.ListN.{length}
use borrow.Author.Tests.{eq-eqb, ne_eqb, lt-ltb, le-ltb, eqb-true, ltb-false}
use Rattle.bits.specs.Bits.{◌is◌}
use Rattle.bits.proofs.Logic.{by_cases}
use Rattle.buffers.specs.Splice.{splice}
use Rattle.refusals.specs.declared.Refusal.{Refusal}
use Rattle.refusals.specs.declared.Refusal.TheVariants.{Length, Room}
use Rattle.board.specs.declared.Board.{Board}
use Rattle.board.specs.declared.Look.{Look}
use Rattle.board.specs.Board.{sound_board}
use Rattle.board.specs.Halves.{seen_of}
use Rattle.board.proofs.Ways.{value_or, error_or, seen_ok, seen_err}
use Rattle.records.specs.Records.{records, steps_of, answers_of}
use Rattle.run.specs.Run.{refusal_of, counted_of, ran_by, ran_of, buffer_of}

-- ---- the number of records
module _ (events room start : ℕ) where
  pub length_refused : (events % 4 ≡ 0 → ⊥) → Err Length ≡ counted_of events room start
  unfolding counted_of
  length_refused n = rw (ne_eqb (events % 4) 0 n)

  pub room_refused : events % 4 ≡ 0 → room / 4 < start + events / 4 → Err Room ≡ counted_of events room start
  unfolding counted_of
  room_refused n h = rw (eq-eqb (events % 4) 0 n, lt-ltb (room / 4) (start + events / 4) h)

  pub none_refused : events % 4 ≡ 0 → start + events / 4 ≤ room / 4 → Ok (events / 4) ≡ counted_of events room start
  unfolding counted_of
  none_refused n h = rw (eq-eqb (events % 4) 0 n, le-ltb (room / 4) (start + events / 4) h)

-- ---- the ways out of a run
module _ (b : Board) (es old : List ℕ) (start : ℕ) where
  pub unsound_ran : (r : Refusal) → Err r ≡ seen_of b → ran_by b (Err r) ≡ ran_of b es old start
  unfolding ran_of refusal_of
  unsound_ran r h = let x = seen_err b r h in rw x.0 (rw x.1)

  pub unsound_buffer : (r : Refusal) → Err r ≡ seen_of b → old ≡ buffer_of b es old start
  unfolding buffer_of refusal_of
  unsound_buffer r h = rw (seen_err b r h).0

  -- what a count tells
  pub record Counted (n : ℕ) : Type 0 where
    pub number : n ≡ length es / 4
    pub whole : length es % 4 ≡ 0
    pub room : start + length es / 4 ≤ length old / 4

  pub run_counted : (n : ℕ) → Ok n ≡ counted_of (length es) (length old) start → Counted n
  unfolding counted_of
  run_counted n h =
      by_cases (length es % 4 is 0)
      (λ a. by_cases (ltb (length old / 4) (start + length es / 4))
      (λ t. absurd (true≢false (ap is_ok (rw (a, t) at h))))
      (λ t. record { number = ap (value_or n) (rw (a, t) at h); whole = eqb-true (length es % 4) 0 a; room = ltb-false (length old / 4) (start + length es / 4) t }))
      (λ a. absurd (true≢false (ap is_ok (rw a at h))))

  module _ (l : Look) (i : Ok l ≡ seen_of b) where
    sound : sound_board b ≡ true
    sound = (seen_ok b l i).sound

    pub refused_ran : (r : Refusal) → Err r ≡ counted_of (length es) (length old) start → ran_by b (Err r) ≡ ran_of b es old start
    unfolding counted_of ran_of refusal_of
    refused_ran r h =
        by_cases (length es % 4 is 0)
        (λ a. by_cases (ltb (length old / 4) (start + length es / 4))
        (λ t. let e : r ≡ Room = ap (error_or r) (rw (a, t) at h) in rw (sound, a, t, e))
        (λ t. absurd (true≢false (ap is_ok (sym (rw (a, t) at h))))))
        (λ a. let e : r ≡ Length = ap (error_or r) (rw a at h) in rw (sound, a, e))

    pub refused_buffer : (r : Refusal) → Err r ≡ counted_of (length es) (length old) start → old ≡ buffer_of b es old start
    unfolding counted_of buffer_of refusal_of
    refused_buffer r h =
        by_cases (length es % 4 is 0)
        (λ a. by_cases (ltb (length old / 4) (start + length es / 4))
        (λ t. rw (sound, a, t))
        (λ t. absurd (true≢false (ap is_ok (sym (rw (a, t) at h))))))
        (λ a. rw (sound, a))

    pub run_taken : (n : ℕ) (after : Board) (out : List ℕ) → Counted n → after ≡ steps_of b (records es) → out ≡ splice old (4 * start) (answers_of b (records es))
        → (ran_by after (Ok n) ≡ ran_of b es old start) × (out ≡ buffer_of b es old start)
    unfolding ran_of buffer_of refusal_of
    run_taken n after out k f g =
        let w = eq-eqb (length es % 4) 0 k.whole in
        let r = le-ltb (length old / 4) (start + length es / 4) k.room in
        (rw (sound, w, r, k.number, f), rw (sound, w, r, g))
