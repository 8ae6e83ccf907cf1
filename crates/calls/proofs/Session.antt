-- Demand 3 after any calls: what every call keeps of the board and of the observer beside it.
-- Assumes nothing.
use Rattle.std.specs.Prelude.{if◌then◌else◌}
use mathlib.Core.Path.{◌≡◌, refl, sym, ◌∙◌}
use mathlib.Core.Bool.{true, false, ◌&&◌}
use mathlib.Core.List.{List, [], ◌∷◌, ◌++◌}
use Prim.Native.Nat.{ℕ, ◌+◌, ◌*◌, ◌≤◌}
use native.Mathlib.Omega.{arith}
use lib.Dec.{ltb, leb}
use lib.ListN.{length, take, drop}
use borrow.Author.Tests.{eqb-true, leb-true, le-ltb}
use Rattle.bits.specs.Bits.{◌is◌}
use Rattle.bits.proofs.Logic.{by_cases, both}
use Rattle.board.specs.declared.Board.{Board}
use Rattle.board.specs.Board.{ports, size_ok, sound_board, fresh_of}
use Rattle.board.specs.Step.{bytes_of, step_of}
use Rattle.board.proofs.Quick.{step_sound}
use Rattle.records.specs.Records.{records, steps_of, answers_of}
use Rattle.records.proofs.Whole.{records_length, answers_length, records_whole}
use Rattle.pio.specs.Lent.{lent_of}
use Rattle.pio.specs.Calls.{FreshCall, StepCall, RunCall, WaveCall}
use Rattle.demands.specs.Observer.{Kept, nothing, see, see_all}
use Rattle.demands.specs.Words.{bytes, all_bytes}
use Rattle.demands.proofs.Demand1.{done_fits}
use Rattle.demands.proofs.Seen.{Current, look_step, look_run}
use Rattle.demands.proofs.Demand3.{listed, rules, step_length, steps_length, value_byte, steps_sound, blank_sound, blank_current, blank_length}
use Rattle.calls.specs.Session.{Session, fresh, step, run, wave, lines, see_step, see_run, see_wave, AnyCalls}
use Rattle.calls.proofs.Answers.{above, every_step, every_run_call, every_wave}
use Rattle.calls.proofs.Buffers.{splice_drop, written_front}

-- ---- what every call keeps: the observer is up to date, the board has 2 × n ports, and it is sound if there is a chip
record Standing (n : ℕ) (b : Board) (k : Kept) : Type 0 where
  current : Current b k
  count : length (ports b) ≡ n * 2
  sound : 1 ≤ n → sound_board b ≡ true

-- ---- pio_fresh
begins : {size r : ℕ} {after : Board} → FreshCall size r after → Standing (if r is 0 then size else 0) after nothing
unfolding fresh_of
begins {size} {r} {after} c = by_cases (size_ok size)
    (λ e. rw (c.code, c.board, e) (record { current = blank_current size; count = blank_length size e; sound = λ l. blank_sound size e }))
    (λ e. rw (c.code, c.board, e) (record { current = blank_current 0; count = refl; sound = λ l. absurd (omega arith) }))

-- ---- pio_step
module _ {n r : ℕ} {b after : Board} {k : Kept} {event old answer : List ℕ} (s : Standing n b k) (v : bytes event ≡ true) (c : StepCall b event old r after answer) where
  steps : leb 4 (length old) ≡ true → Standing n after (see_step r event answer k)
  unfolding lent_of bytes_of
  steps h =
      let all = every_step b event old r after answer c in
      let room = leb-true 4 (length old) h in
      let other : (r is 34) ≡ false = all.ordered 34 (omega arith) ∙ rw (le-ltb (length old) 4 room) in
      let front : take 4 answer ≡ bytes_of (step_of b event).answer = rw (c.buffer, h) (written_front old (bytes_of (step_of b event).answer) room) in
      let board : after ≡ (step_of b event).board = c.board ∙ rw h in
      rw (other, front, board) (record {
        current = look_step b event k s.current;
        count = step_length b event ∙ s.count;
        sound = λ l. step_sound b event (value_byte event v) (s.sound l);
      })

  waits : leb 4 (length old) ≡ false → Standing n after (see_step r event answer k)
  unfolding lent_of
  waits h = rw (c.code, c.board, h) s

  stepped : Standing n after (see_step r event answer k)
  stepped = by_cases (leb 4 (length old)) steps waits

-- ---- pio_run
-- more answers than events change nothing
see_more : (es given more : List (List ℕ)) (k : Kept) → length es ≡ length given → see_all es (given ++ more) k ≡ see_all es given k
see_more [] given more k h = refl
see_more (e ∷ es) [] more k h = absurd (omega (arith, h))
see_more (e ∷ es) (a ∷ given) more k h = see_more es given more (see e a k) (omega (arith, h))

records_bytes : (es : List ℕ) → bytes es ≡ true → all_bytes (records es) ≡ true
unfolding records
records_bytes [] h = refl
records_bytes (a ∷ []) h = refl
records_bytes (a ∷ b ∷ []) h = refl
records_bytes (a ∷ b ∷ c ∷ []) h = refl
records_bytes (a ∷ b ∷ c ∷ d ∷ es) h =
    let p = both (ltb a 256) (ltb b 256 && (ltb c 256 && (ltb d 256 && bytes es))) h in
    let q = both (ltb b 256) (ltb c 256 && (ltb d 256 && bytes es)) p.1 in
    let r = both (ltb c 256) (ltb d 256 && bytes es) q.1 in
    let s = both (ltb d 256) (bytes es) r.1 in
    rw (p.0, q.0, r.0, s.0) (records_bytes es s.1)

-- a board and its observer after the events of a session
goes_on : {n : ℕ} {b : Board} {k : Kept} (es : List ℕ) → bytes es ≡ true → Standing n b k → Standing n (steps_of b (records es)) (see_all (records es) (records (answers_of b (records es))) k)
goes_on {n} {b} {k} es v s = record {
  current = look_run b (records es) k s.current;
  count = steps_length b (records es) ∙ s.count;
  sound = λ l. steps_sound b (records es) (s.sound l) (records_bytes es v);
}

module _ {n start r count : ℕ} {b after : Board} {k : Kept} {events old answers : List ℕ} (s : Standing n b k) (v : bytes events ≡ true) (c : RunCall b events old start r after answers count) where
  -- the answers in the buffer are those of the events
  told : r ≡ 0 → see_all (records events) (records (drop (4 * start) answers)) k ≡ see_all (records events) (records (answers_of b (records events))) k
  told z =
      let es = records events in
      let given = answers_of b es in
      let fits = done_fits b events old start (sym c.code ∙ z) in
      let counts : length es ≡ length (records given) = omega (arith, records_length given, answers_length b es) in
      rw (
        ((every_run_call b events old start r after answers count c).done z).1,
        splice_drop old (4 * start) given (omega arith),
        records_whole given (drop (4 * start + length given) old) (omega (arith, answers_length b es)),
      )
      (see_more es (records given) (records (drop (4 * start + length given) old)) k counts)

  ran : Standing n after (see_run r events answers start k)
  ran =
      let all = every_run_call b events old start r after answers count c in
      by_cases (r is 0)
      (λ e. let z = eqb-true r 0 e in rw (e, told z, (all.done z).0) (goes_on events v s))
      (λ e. rw (e, (all.unchanged (above r e)).0) s)

-- ---- pio_wave
module _ {n r count : ℕ} {b after : Board} {k : Kept} {events stamps old text : List ℕ} (s : Standing n b k) (v : bytes events ≡ true) (c : WaveCall b events stamps old r after text count) where
  exported : Standing n after (see_wave r b events k)
  exported =
      let all = every_wave b events stamps old r after text count c in
      by_cases (r is 0)
      (λ e. rw (e, (all.done (eqb-true r 0 e)).0) (goes_on events v s))
      (λ e. rw (e, (all.unchanged (above r e)).0) s)

-- ---- any calls
standing : {n : ℕ} {b : Board} {k : Kept} → Session n b k → Standing n b k
standing (fresh c) = begins c
standing (step s v c) = stepped (standing s) v c
standing (run s v c) = ran (standing s) v c
standing (wave s v c) = exported (standing s) v c
standing (lines s c) = standing s

pub any_calls : AnyCalls
any_calls n b k s =
    let t = standing s in
    record {
      keeps = rw t.count at (listed b k t.current);
      holds = λ l. rw t.count at (rules b (t.sound l) k t.current);
    }
