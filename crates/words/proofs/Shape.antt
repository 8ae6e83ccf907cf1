-- What a control word does to the registers' half of soundness: a word that was heard fits the port, and a port that obeys it keeps
-- the four facts.
-- Assumes nothing.
use Rattle.std.specs.Prelude.{Result, Ok, Err, if◌then◌else◌}
use mathlib.Core.Path.{◌≡◌, refl}
use mathlib.Core.Bool.{Bool, true, false, ◌&&◌, ◌||◌, not}
use Prim.Native.Nat.{ℕ, ◌/◌, ◌%◌}
use native.Mathlib.Omega.{arith}
use lib.Dec.{ltb}
use borrow.Author.Tests.{lt-ltb, ltb-true}
use Rattle.bits.specs.Bits.{◌is◌}
use Rattle.port.specs.Sound.{mode_ok, vector_ok, enable_ok, await_ok}
use Rattle.port.specs.declared.Port.{Port}
use Rattle.words.specs.Words.{heard_of, obeyed}
use Rattle.words.specs.declared.Word.{Word}
use Rattle.words.specs.declared.Word.TheVariants.{Vector, Mode, Interrupt, Enable, Select, Mask}
use Rattle.refusals.specs.declared.Refusal.{Refusal}
use Rattle.bits.proofs.Logic.{by_cases, both, join}
use Rattle.port.proofs.Shape.{Facts}

-- ---- over single fields
enable_on : (on live : Bool) → enable_ok (on && live) on ≡ true
enable_on true true = refl
enable_on true false = refl
enable_on false live = refl

await_less : (on : Bool) (awaiting mode : ℕ) (live : Bool) → await_ok awaiting mode live ≡ true → await_ok awaiting mode (on && live) ≡ true
await_less true awaiting mode live e = e
await_less false awaiting mode live e = join (ltb awaiting 3 && (not (awaiting is 1) || (mode is 3))) true (both (ltb awaiting 3 && (not (awaiting is 1) || (mode is 3))) (not (live && (awaiting is 2))) e).0 refl

await_none : (mode : ℕ) (live : Bool) → await_ok 0 mode live ≡ true
await_none mode true = refl
await_none mode false = refl

await_mode : (three live : Bool) → (ltb (if three then 1 else 0) 3 && (not ((if three then 1 else 0) is 1) || three) && not (live && ((if three then 1 else 0) is 2))) ≡ true
await_mode true true = refl
await_mode true false = refl
await_mode false true = refl
await_mode false false = refl

-- ---- what a heard word may hold
abbrev pub fits : Bool → Result Word Refusal → Bool
fits on_b (Ok (Vector v)) = vector_ok v
fits on_b (Ok (Mode m)) = mode_ok on_b m
fits on_b (Ok (Interrupt on all high masked)) = true
fits on_b (Ok (Enable on)) = true
fits on_b (Ok (Select v)) = true
fits on_b (Ok (Mask v)) = true
fits on_b (Err r) = true

pub word_fits : (awaiting : ℕ) (on_b : Bool) (v : ℕ) → ltb v 256 ≡ true → fits on_b (heard_of awaiting on_b v) ≡ true
word_fits awaiting on_b v byte =
    by_cases (awaiting is 1) (λ e. rw e) (λ e. rw e
    (by_cases (awaiting is 2) (λ e. rw e) (λ e. rw e
    (by_cases (v % 2 is 0) (λ e. rw e e) (λ e. rw e
    (by_cases (v % 16 is 15) (λ e. rw e
    (by_cases (on_b && (v / 64 is 2)) (λ e. rw e) (λ e. rw e (join (ltb (v / 64) 4) (not (on_b && (v / 64 is 2))) (lt-ltb (v / 64) 4 (omega (arith, ltb-true v 256 byte))) (rw e))))) (λ e. rw e
    (by_cases (v % 16 is 7) (λ e. rw e) (λ e. rw e
    (by_cases (v % 16 is 3) (λ e. rw e) (λ e. rw e)))))))))))

pub obeyed_facts : (on_b linked : Bool) (p : Port) (w : Word) → fits on_b (Ok w) ≡ true → Facts on_b p → Facts on_b (obeyed linked p w)
obeyed_facts on_b linked p (Vector v) f h = (h.0, f, h.2, h.3)
obeyed_facts on_b linked p (Mode m) f h = (f, h.1, h.2, await_mode (m is 3) p.live)
obeyed_facts on_b linked p (Interrupt on all high true) f h = (h.0, h.1, refl, refl)
obeyed_facts on_b linked p (Interrupt on all high false) f h = (h.0, h.1, enable_on on p.live, await_less on p.awaiting p.mode p.live h.3)
obeyed_facts on_b linked p (Enable on) f h = (h.0, h.1, enable_on on p.live, await_less on p.awaiting p.mode p.live h.3)
obeyed_facts on_b linked p (Select v) f h = (h.0, h.1, h.2, await_none p.mode p.live)
obeyed_facts on_b linked p (Mask v) f h = (h.0, h.1, h.2, await_none p.mode p.live)
