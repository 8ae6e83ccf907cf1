-- Demand 1 of each exported function, from the laws of a step, a run and a table of refusals.
-- Assumes nothing.
use Rattle.std.specs.Prelude.{if◌then◌else◌}
use mathlib.Core.Path.{◌≡◌, refl, sym, ap, ◌∙◌}
use mathlib.Core.Bool.{true, false, not, or-true}
use mathlib.Core.List.{List, [], ◌∷◌}
use Prim.Native.Nat.{ℕ, ◌*◌, ◌≤◌}
use native.Mathlib.Omega.{arith}
use lib.Dec.{ltb, leb}
use lib.ListN.{length}
use borrow.Author.Tests.{eqb-true, eqb-false, ne_eqb, ltb-false, lt-ltb, le-ltb, leb-true, leb-false, not-true}
use Rattle.bits.specs.Bits.{◌is◌}
use Rattle.bits.proofs.Logic.{by_cases, both}
use Rattle.buffers.specs.Splice.{splice}
use Rattle.buffers.proofs.Splices.{length_splice}
use Rattle.board.specs.declared.Board.{Board}
use Rattle.port.specs.Rules.{levels_now, driven_of}
use Rattle.board.specs.Board.{port_at, size_ok, sound_board, fresh_of, lines_of}
use Rattle.board.specs.Step.{Line, answer, bytes_of, Stepped, step_of}
use Rattle.records.specs.Records.{records}
use Rattle.run.specs.Run.{Ran, ran_of}
use Rattle.recording.specs.Wave.{wave_text, wave_lines, refusal_of, wave_refusal, exported_of, page_of}
use Rattle.pio.specs.Lent.{lent_of, lent_lines, written}
use Rattle.pio.specs.Calls.{StepCall, WaveCall, LinesCall}
use Rattle.demands.specs.Words.{step_codes, listed}
use Rattle.demands.proofs.Refusals.{verdict_each, verdict_decides, verdict_none, none_drop, listed_all}
use Rattle.demands.proofs.Demand1.{four_bytes, not_four_bytes, every_run}
use Rattle.calls.specs.Answers.{EveryFresh, StepAnswered, EveryStep, EveryRunCall, wave_codes, WaveAnswered, EveryWave, LinesAnswered, EveryLines}
use Rattle.calls.proofs.Buffers.{written_room, written_short, written_length}

-- ---- pio_fresh
pub every_fresh : EveryFresh
unfolding fresh_of
every_fresh size r after c = by_cases (size_ok size)
    (λ e. record { known = rw (c.code, e); refused = rw (c.code, e); made = rw (c.code, c.board, e) })
    (λ e. record { known = rw (c.code, e); refused = rw (c.code, e); made = rw (c.code, c.board, e) })

-- ---- pio_step
-- no code of the table is 32 or 34
never : (n : ℕ) → listed n step_codes ≡ true → ((n is 34) ≡ false) × ((n is 32) ≡ false)
never n k = (
  not-true (n is 34) (listed_all (λ m. not (m is 34)) n step_codes refl k),
  not-true (n is 32) (listed_all (λ m. not (m is 32)) n step_codes refl k),
)

module _ (b : Board) (event old : List ℕ) (r : ℕ) (after : Board) (buffer : List ℕ) (c : StepCall b event old r after buffer) where
  no_answer_room : leb 4 (length old) ≡ false → StepAnswered b event old r after buffer
  unfolding lent_of bytes_of
  no_answer_room h =
      let short = leb-false 4 (length old) h in
      let code : r ≡ 34 = c.code ∙ rw h in
      let same = c.buffer ∙ written_short old _ short in
      record {
        known = rw code;
        ordered = λ n l. rw (code, lt-ltb (length old) 4 short) (by_cases (34 is n) (λ e. rw e) (λ e. rw e));
        unchanged = λ l. c.board ∙ rw h;
        told = λ l. rw code same;
        inside = rw same;
      }

  -- with room the call is the step
  module _ (h : leb 4 (length old) ≡ true) where
    room : 4 ≤ length old
    room = leb-true 4 (length old) h

    stepped : lent_of b event (length old) ≡ step_of b event
    unfolding lent_of
    stepped = rw h

    code_is : r ≡ (step_of b event).answer.code
    code_is = c.code ∙ ap (λ (s : Stepped). s.answer.code) stepped

    buffer_is : buffer ≡ written old (bytes_of (step_of b event).answer)
    buffer_is = c.buffer ∙ ap (λ (s : Stepped). written old (bytes_of s.answer)) stepped

    buffer_length : length buffer ≡ length old
    unfolding bytes_of
    buffer_length = rw buffer_is (written_length old (bytes_of (step_of b event).answer) room)

    other_length : (length event is 4) ≡ false → StepAnswered b event old r after buffer
    unfolding bytes_of
    other_length f =
        let code : r ≡ 32 = code_is ∙ rw (not_four_bytes b event f) in
        record {
          known = rw code;
          ordered = λ n l. rw (code, le-ltb (length old) 4 room, f)
              (by_cases (34 is n) (λ e. rw e (rw (← eqb-true 34 n e))) (λ e. rw e (by_cases (32 is n) (λ i. rw i) (λ i. rw i))));
          unchanged = λ l. c.board ∙ rw (stepped, not_four_bytes b event f);
          told = λ l. rw code (buffer_is ∙ rw (not_four_bytes b event f) (written_room old (32 ∷ 0 ∷ 0 ∷ 0 ∷ []) room));
          inside = buffer_length;
        }

    four : length event ≡ 4 → StepAnswered b event old r after buffer
    unfolding bytes_of
    four f =
        let s = four_bytes b event f in
        let none = never (step_of b event).answer.code s.known in
        record {
          known = rw (code_is, s.known, or-true, or-true);
          ordered = λ n l. rw (code_is, le-ltb (length old) 4 room, f)
              (by_cases (34 is n) (λ e. rw e (rw (← eqb-true 34 n e) none.0))
              (λ e. rw e (by_cases (32 is n) (λ i. rw i (rw (← eqb-true 32 n i) none.1)) (λ i. rw i (s.ordered n l)))));
          unchanged = λ l. c.board ∙ rw (stepped, s.unchanged (rw code_is at l));
          told = λ l. rw (code_is, none.0, none.1) (buffer_is ∙ rw (s.unchanged (rw code_is at l)) (written_room old _ room));
          inside = buffer_length;
        }

pub every_step : EveryStep
every_step b event old r after buffer c = by_cases (leb 4 (length old))
    (λ h. by_cases (length event is 4)
    (λ f. four b event old r after buffer c h (eqb-true (length event) 4 f))
    (λ f. other_length b event old r after buffer c h f))
    (λ h. no_answer_room b event old r after buffer c h)

-- ---- pio_run
pub above : (n : ℕ) → (n is 0) ≡ false → 1 ≤ n
above n e = let h = eqb-false n 0 e in omega arith

pub every_run_call : EveryRunCall
every_run_call b events old start r after answers count c =
    let s = every_run b events old start in
    let code = c.code in
    record {
      known = rw code s.known;
      ordered = λ n l. rw code (s.ordered n l);
      unchanged = λ l. let u = s.unchanged (rw code at l) in
          (c.board ∙ ap (λ (x : Ran). x.board) u.0, c.buffer ∙ u.1, c.count ∙ ap (λ (x : Ran). x.records) u.0);
      done = λ z. let d = s.done (sym code ∙ z) in
          (c.board ∙ ap (λ (x : Ran). x.board) d.0, c.buffer ∙ d.1, c.count ∙ ap (λ (x : Ran). x.records) d.0);
      inside = rw c.buffer
          (by_cases ((ran_of b events old start).code is 0)
          (λ e. (s.done (eqb-true (ran_of b events old start).code 0 e)).2)
          (λ e. ap length (s.unchanged (above (ran_of b events old start).code e)).1));
    }

-- ---- pio_wave
module _ (b : Board) (events stamps old : List ℕ) where
  abbrev why : ℕ
  why = wave_refusal b events stamps (length old)

  abbrev table : List Line
  table = wave_lines (sound_board b) (length events) (length stamps) (length (wave_text b events stamps)) (length old)

  -- the text of an accepted export fits
  fits : (why is 0) ≡ true → length (wave_text b events stamps) ≤ length old
  unfolding refusal_of
  fits h =
      let long = ltb (length old) (length (wave_text b events stamps)) in
      ltb-false (length old) (length (wave_text b events stamps)) (not-true long (both (not long) true (none_drop 4 table (verdict_none table refl h))).0)

  module _ (r : ℕ) (after : Board) (text : List ℕ) (count : ℕ) (c : WaveCall b events stamps old r after text count) where
    exported : (why is 0) ≡ true → WaveAnswered b events stamps old r after text count
    unfolding exported_of page_of refusal_of
    exported h =
        let code : r ≡ 0 = c.code ∙ rw h in
        let page : text ≡ splice old 0 (wave_text b events stamps) = c.buffer ∙ rw h in
        record {
          known = rw code;
          ordered = λ n l. rw code (ap (λ (m : ℕ). m is n) (sym (eqb-true why 0 h)) ∙ verdict_decides table refl n l);
          unchanged = λ l. absurd (omega (arith, code));
          done = λ z. (c.board ∙ rw h, page, c.count ∙ rw h);
          inside = rw page (length_splice old 0 (wave_text b events stamps) (omega (arith, fits h)));
        }

    refused : (why is 0) ≡ false → WaveAnswered b events stamps old r after text count
    unfolding exported_of page_of refusal_of
    refused h =
        let code : r ≡ why = c.code ∙ rw h in
        let page : text ≡ old = c.buffer ∙ rw h in
        let some = eqb-false why 0 h in
        record {
          known = rw code (verdict_each (λ n. listed n wave_codes) table refl h);
          ordered = λ n l. rw code (verdict_decides table refl n l);
          unchanged = λ l. (c.board ∙ rw h, page, c.count ∙ rw h);
          done = λ z. absurd (some (sym code ∙ z));
          inside = rw page;
        }

pub every_wave : EveryWave
every_wave b events stamps old r after text count c =
    by_cases (why b events stamps old is 0) (exported b events stamps old r after text count c) (refused b events stamps old r after text count c)

-- ---- pio_lines
module _ (b : Board) (place : ℕ) (old : List ℕ) (r : ℕ) (shown : List ℕ) (c : LinesCall b place old r shown) where
  no_lines_room : leb 2 (length old) ≡ false → LinesAnswered b place old r shown
  unfolding lent_lines
  no_lines_room h =
      let short = leb-false 2 (length old) h in
      let code : r ≡ 34 = c.code ∙ rw h in
      let same = c.buffer ∙ written_short old _ short in
      record {
        known = rw code;
        ordered = λ n l. rw (code, lt-ltb (length old) 2 short) (by_cases (34 is n) (λ e. rw e) (λ e. rw e));
        unchanged = λ l. rw code same;
        done = λ z. absurd (omega (arith, code, z));
        inside = rw same;
      }

  module _ (h : leb 2 (length old) ≡ true) where
    lines_room : 2 ≤ length old
    lines_room = leb-true 2 (length old) h

    lines_written : (block : List ℕ) → length block ≡ 2 → shown ≡ written old block → (shown ≡ splice old 0 block) × (length shown ≡ length old)
    lines_written block l e = (e ∙ written_room old block (omega (arith, lines_room)), rw e (written_length old block (omega (arith, lines_room))))

    not_sound : sound_board b ≡ false → LinesAnswered b place old r shown
    unfolding lent_lines lines_of
    not_sound s =
        let code : r ≡ 35 = c.code ∙ rw (h, s) in
        let page = lines_written (0 ∷ 0 ∷ []) refl (c.buffer ∙ rw (h, s)) in
        record {
          known = rw code;
          ordered = λ n l. rw (code, le-ltb (length old) 2 lines_room, s)
              (by_cases (34 is n) (λ e. rw e (rw (← eqb-true 34 n e))) (λ e. rw e (by_cases (35 is n) (λ i. rw i) (λ i. rw i))));
          unchanged = λ l. rw code page.0;
          done = λ z. absurd (omega (arith, code, z));
          inside = page.1;
        }

    no_place : sound_board b ≡ true → ltb place (b.size * 2) ≡ false → LinesAnswered b place old r shown
    unfolding lent_lines lines_of
    no_place s p =
        let code : r ≡ 17 = c.code ∙ rw (h, s, p) in
        let page = lines_written (0 ∷ 0 ∷ []) refl (c.buffer ∙ rw (h, s, p)) in
        record {
          known = rw code;
          ordered = λ n l. rw (code, le-ltb (length old) 2 lines_room, s, p)
              (by_cases (34 is n) (λ e. rw e (rw (← eqb-true 34 n e))) (λ e. rw e
              (by_cases (35 is n) (λ i. rw i (rw (← eqb-true 35 n i))) (λ i. rw i (by_cases (17 is n) (λ j. rw j) (λ j. rw j))))));
          unchanged = λ l. rw code page.0;
          done = λ z. absurd (omega (arith, code, z));
          inside = page.1;
        }

    lines_shown : sound_board b ≡ true → ltb place (b.size * 2) ≡ true → LinesAnswered b place old r shown
    unfolding lent_lines lines_of
    lines_shown s p =
        let code : r ≡ 0 = c.code ∙ rw (h, s, p) in
        let page = lines_written (levels_now (port_at b place) ∷ driven_of (port_at b place) ∷ []) refl (c.buffer ∙ rw (h, s, p)) in
        record {
          known = rw code;
          ordered = λ n l. rw (code, le-ltb (length old) 2 lines_room, s, p)
              (by_cases (34 is n) (λ e. rw e (rw (← eqb-true 34 n e))) (λ e. rw e
              (by_cases (35 is n) (λ i. rw i (rw (← eqb-true 35 n i))) (λ i. rw i
              (by_cases (17 is n) (λ j. rw j (rw (← eqb-true 17 n j))) (λ j. rw j (ne_eqb 0 n (λ z. omega (arith, z)))))))));
          unchanged = λ l. absurd (omega (arith, code));
          done = λ z. page.0;
          inside = page.1;
        }

pub every_lines : EveryLines
every_lines b place old r shown c = by_cases (leb 2 (length old))
    (λ h. by_cases (sound_board b)
    (λ s. by_cases (ltb place (b.size * 2)) (lines_shown b place old r shown c h s) (no_place b place old r shown c h s))
    (not_sound b place old r shown c h))
    (no_lines_room b place old r shown c)
