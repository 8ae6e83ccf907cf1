-- What holds of a board after any session.
-- Assumes nothing.
use Rattle.std.specs.Prelude.{Result, Ok, Err}
use mathlib.Core.Path.{◌≡◌, refl}
use mathlib.Core.Bool.{Bool, true, false, ◌&&◌, not, beq, and-false}
use mathlib.Core.List.{List, [], ◌∷◌}
use Prim.Native.Nat.{ℕ, zero, suc, ◌<◌}
use native.Mathlib.Omega.{arith}
use lib.Dec.{leb}
use lib.ListN.{take, replicate}
use borrow.Author.Tests.{lt-ltb, leb-true}
use Rattle.bits.specs.Bits.{◌is◌}
use Rattle.bits.proofs.Logic.{by_cases, both}
use Rattle.words.specs.declared.Word.TheVariants.{Vector, Mode, Interrupt, Enable, Select, Mask}
use Rattle.refusals.specs.declared.Refusal.{Refusal}
use Rattle.words.specs.declared.Word.{Word}
use Rattle.chip.specs.declared.Chip.{Chip}
use Rattle.chip.specs.Chip.{Side, A, B, two_way, chip_fresh}
use Rattle.events.specs.declared.Event.{Event}
use Rattle.events.specs.declared.Event.TheVariants.{Control, Write, Read, Strobe, Outside}
use Rattle.events.specs.Events.{heard, obey_heard, changed}
use Rattle.chain.specs.Chain.{most}
use Rattle.board.specs.declared.Board.{Board}
use Rattle.board.specs.Board.{there, size_ok, blank_board, fresh_of}
use Rattle.board.specs.declared.Doing.{Doing}
use Rattle.board.specs.declared.Doing.TheVariants.{Reset, Fetch, Acknowledge, At}
use Rattle.board.specs.Step.{doing_of, step_of}
use Rattle.board.proofs.Quick.{step_sound}
use Rattle.records.specs.Records.{steps_of}
use Rattle.demands.specs.Words.{bytes, all_bytes}
use Rattle.demands.proofs.Demand3.{value_byte, from_fresh}
use Rattle.meaning.specs.Words.{Each}
use Rattle.meaning.specs.Sessions.{numbers, ReadyLow, KeepsReadyLow, InSession, KeptBySessions, AfterAnySession}
use Rattle.meaning.proofs.Rows.{Lasting, KeptAt, there_keeps}
use Rattle.meaning.proofs.Bytes.{keeps_bytes, keeps_prefix}

-- ---- Ready in mode 3
uncoupled : (r t u : Bool) → (t ≡ false → r ≡ false) → u ≡ false → (r && beq t u) ≡ false
uncoupled r true u h e = rw e (and-false r)
uncoupled r false u h e = rw (e, h refl)

-- a word that leaves A's mode
same_mode : (c : Chip) → ReadyLow c → c.b.mode ≡ 3 → two_way c ≡ false → (c.b.ready && beq (two_way c) (two_way c)) ≡ false
same_mode c l e t = uncoupled c.b.ready (two_way c) (two_way c) (l.1 e) t

word_low : (s : Side) (h : Result Word Refusal) (c : Chip) → ReadyLow c → ReadyLow (obey_heard s h c)
word_low A (Ok (Vector v)) c l = (l.0, same_mode c l)
word_low A (Ok (Mode m)) c l = (λ e. and-false c.a.ready, λ e t. uncoupled c.b.ready (two_way c) (m is 2) (l.1 e) t)
word_low A (Ok (Interrupt on all high true)) c l = (l.0, same_mode c l)
word_low A (Ok (Interrupt on all high false)) c l = (l.0, same_mode c l)
word_low A (Ok (Enable on)) c l = (l.0, same_mode c l)
word_low A (Ok (Select v)) c l = (l.0, same_mode c l)
word_low A (Ok (Mask v)) c l = (l.0, same_mode c l)
word_low B (Ok (Vector v)) c l = l
word_low B (Ok (Mode m)) c l = (l.0, λ e t. rw t (and-false c.b.ready))
word_low B (Ok (Interrupt on all high true)) c l = l
word_low B (Ok (Interrupt on all high false)) c l = l
word_low B (Ok (Enable on)) c l = l
word_low B (Ok (Select v)) c l = l
word_low B (Ok (Mask v)) c l = l
word_low s (Err r) c l = l

event_low : (e : Event) (s : Side) (c : Chip) → ReadyLow c → ReadyLow (changed s e c)
event_low (Control v) s c l = word_low s (heard s v c) c l
event_low (Write v) A c l = (λ e. rw (l.0 e, e), l.1)
event_low (Write v) B c l = (l.0, λ e t. rw (l.1 e t, e) (and-false (not (two_way c))))
event_low Read A c l = (λ e. rw (l.0 e, e), λ e t. rw (l.1 e t, t))
event_low Read B c l = (l.0, λ e t. rw (l.1 e t, e) (and-false (not (two_way c))))
event_low (Strobe level) A c l = (λ e. rw (l.0 e), l.1)
event_low (Strobe level) B c l = (l.0, λ e t. rw (l.1 e t))
event_low (Outside v) A c l = l
event_low (Outside v) B c l = l

low_at : (e : Doing) → KeptAt ReadyLow e
low_at Reset = tt
low_at (Fetch byte) = tt
low_at Acknowledge = tt
low_at (At place e) = event_low e

low_lasts : Lasting ReadyLow
low_lasts = record {
  settling = λ c l. l;
  reset = λ c l. (λ e. refl, λ e t. refl);
  fetch = λ c l. l;
  service_of_a = λ c l. l;
  service_of_b = λ c l. l;
  release_of_a = λ c l. l;
  release_of_b = λ c l. l;
}

pub keeps_ready_low : KeepsReadyLow
keeps_ready_low b e h = there_keeps ReadyLow low_lasts b e (low_at (doing_of e)) h

-- ---- a session
step_kept : (b : Board) (e : List ℕ) → bytes e ≡ true → InSession b → InSession (step_of b e).board
step_kept b e v k = record {
  sound = step_sound b e (value_byte e v) k.sound;
  every_byte = keeps_bytes b e v k.every_byte;
  ready_low = keeps_ready_low b e k.ready_low;
  prefix = keeps_prefix b e k.prefix;
}

pub kept_by_sessions : KeptBySessions
unfolding steps_of
kept_by_sessions b [] a k = k
kept_by_sessions b (e ∷ es) a k =
    let s = both (bytes e) (all_bytes es) a in
    kept_by_sessions (step_of b e).board es s.1 (step_kept b e s.0 k)

-- ---- a fresh board
row_low : (n m : ℕ) → Each ReadyLow (take n (replicate m chip_fresh))
row_low zero m = tt
row_low (suc n) zero = tt
row_low (suc n) (suc m) = ((λ e. refl, λ e t. refl), row_low n m)

blank_bytes : (n : ℕ) → n < 256 → bytes (numbers (blank_board n)) ≡ true
blank_bytes n h = rw (lt-ltb n 256 h)

module _ (n : ℕ) where
  fresh_bytes : bytes (numbers (fresh_of n).board) ≡ true
  unfolding fresh_of
  fresh_bytes = by_cases (size_ok n)
      (λ e. rw e (blank_bytes n (omega (arith, leb-true n most (both (leb 1 n) (leb n most) e).1))))
      (λ e. rw e)

  fresh_low : Each ReadyLow (there (fresh_of n).board)
  unfolding fresh_of
  fresh_low = by_cases (size_ok n) (λ e. rw e (row_low n most)) (λ e. rw e tt)

  fresh_prefix : (fresh_of n).board.decoder.prefix < 2
  unfolding fresh_of
  fresh_prefix = by_cases (size_ok n) (λ e. rw e (omega arith)) (λ e. rw e (omega arith))

  fresh_kept : (fresh_of n).code ≡ 0 → InSession (fresh_of n).board
  unfolding steps_of
  fresh_kept h = record { sound = (from_fresh n [] h refl).sound; every_byte = fresh_bytes; ready_low = fresh_low; prefix = fresh_prefix }

pub after_any_session : AfterAnySession
after_any_session n es h a = kept_by_sessions (fresh_of n).board es a (fresh_kept n h)
