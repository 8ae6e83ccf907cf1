-- The step of any board, sound or not, and the driven lines: what a look at the board, a lent step and the question for driven lines
-- come to.
-- Assumes nothing.
use Rattle.std.specs.Prelude.{Result, Ok, Err}
use mathlib.Core.Path.{◌≡◌, refl, sym, ap, ◌∙◌}
use mathlib.Core.Bool.{Bool, true, false, true≢false, ◌&&◌}
use mathlib.Core.List.{List}
use Prim.Native.Nat.{ℕ, ◌*◌, ◌/◌, ◌%◌, ◌≤◌, ◌<◌}
use native.Mathlib.Omega.{arith}
use lib.Dec.{leb}
use lib.ListN.{length, get_or}
use borrow.Author.Tests.{eq-eqb, ne_eqb, eqb-true, lt-ltb, le-ltb}
use Rattle.bits.specs.Bits.{◌is◌}
use Rattle.bits.proofs.Logic.{by_cases}
use Rattle.port.specs.Rules.{levels_now, driven_of}
use Rattle.port.specs.declared.Port.{Port}
use Rattle.refusals.specs.declared.Refusal.{Refusal}
use Rattle.refusals.specs.declared.Refusal.TheVariants.{Place}
use Rattle.chip.specs.Chip.{side, port}
use Rattle.chain.specs.Chain.{most}
use Rattle.chain.specs.Marks.{Marks, marks_of, caller_of}
use Rattle.board.specs.declared.Board.{Board}
use Rattle.board.specs.declared.Look.{Look}
use Rattle.board.specs.Board.{there, sound_all, sound_board, told_by, lines_of}
use Rattle.board.specs.Step.{refusal, refused, step_of}
use Rattle.board.specs.Halves.{stirs_some, seen_of, blank, unread, first_by, first_of, look_of, looked_of}
use Rattle.board.proofs.Ways.{seen_ok, seen_err}
use Rattle.board.proofs.Ports.{quiet}
use Rattle.board.proofs.Halves.{size_fits, port_there}
use Rattle.board.proofs.Kept.{Kept, advances}

-- ---- what a look finds
pub looked : (b : Board) (s d f g : Bool) (ms : Marks) (r : ℕ) → f ≡ leb 1 b.size → g ≡ leb b.size most → s ≡ sound_all (there b) → d ≡ stirs_some (there b) → ms ≡ marks_of b.size b.chips
    → r ≡ caller_of ms → (s && f && g, record { marks = ms; due = d; request = r }) ≡ looked_of b
unfolding sound_board
looked b s d f g ms r ef eg i j k q = rw (ef, eg, i, q, j, k) (ap (λ (x : Bool). (x, look_of b.size b.chips)) (turned (sound_all (there b)) (leb 1 b.size) (leb b.size most)))
  where
    turned : (x y z : Bool) → (x && y && z) ≡ (y && z && x)
    turned true true true = refl
    turned true true false = refl
    turned true false true = refl
    turned true false false = refl
    turned false true true = refl
    turned false true false = refl
    turned false false true = refl
    turned false false false = refl

-- ---- what is known at the start
pub kept_begins : (b : Board) (l : Look) → length b.chips ≡ most → Ok l ≡ seen_of b → Kept b l
kept_begins b l len h =
    let x = seen_ok b l h in
    record {
      sound = x.sound;
      known = record {
        row = len;
        marked = ap (λ (y : Look). y.marks) x.look;
        asked = ap (λ (y : Look). y.request) x.look;
        still = λ z. quiet (there b) (sym (ap (λ (y : Look). y.due) x.look) ∙ z);
      };
    }

-- ---- any event of any board
unsound_refused : (b : Board) (e : List ℕ) → sound_board b ≡ false → refusal b e ≡ 35
unfolding refusal
unsound_refused b e s = rw s

pub step_short : (b : Board) (e : List ℕ) → (length e ≡ 4 → ⊥) → unread b ≡ step_of b e
unfolding step_of
step_short b e n = rw (ne_eqb (length e) 4 n)

module _ (b : Board) (e : List ℕ) (len : length b.chips ≡ most) where
  unsound : (r : Refusal) → (length e is 4) ≡ true → Err r ≡ seen_of b → first_by b e (Err r) ≡ step_of b e
  unfolding step_of refused
  unsound r n h = let x = seen_err b r h in rw (n, unsound_refused b e x.0, x.0, x.1)

  looked_over : (r : Result Look Refusal) → (length e is 4) ≡ true → r ≡ seen_of b → first_by b e r ≡ step_of b e
  looked_over (Ok l) n h = advances b l (kept_begins b l len h) e (eqb-true (length e) 4 n)
  looked_over (Err r) n h = unsound r n h

-- THE STEP OF ANY BOARD IS ITS HALVES, BEHIND A LOOK AT THE BOARD
pub first_is : (b : Board) (e : List ℕ) → length b.chips ≡ most → first_of b e ≡ step_of b e
first_is b e len = by_cases (length e is 4) (λ n. rw n (looked_over b e len (seen_of b) n refl)) (λ n. rw n (step_short b e (λ l. absurd (true≢false (sym (eq-eqb (length e) 4 l) ∙ n)))))

-- so it is where the event has four bytes and r is what the look gave
pub first_seen : (b : Board) (e : List ℕ) (r : Result Look Refusal) → length b.chips ≡ most → length e ≡ 4 → r ≡ seen_of b → first_by b e r ≡ step_of b e
first_seen b e r len n h = ap (first_by b e) h ∙ (rw (eq-eqb (length e) 4 n) at (first_is b e len))

-- ---- the driven lines
module _ (b : Board) (place : ℕ) where
  pub lines_unsound : (r : Refusal) → Err r ≡ seen_of b → told_by (Err r) ≡ lines_of b place
  unfolding lines_of
  lines_unsound r h = let x = seen_err b r h in rw (x.0, x.1)

  module _ (l : Look) (len : length b.chips ≡ most) (h : Ok l ≡ seen_of b) where
    pub in_array : place / 2 < b.size → place / 2 < most
    in_array k = omega (arith, size_fits b (seen_ok b l h).sound len)

    pub lines_beyond : b.size ≤ place / 2 → told_by (Err Place) ≡ lines_of b place
    unfolding lines_of
    lines_beyond k = rw ((seen_ok b l h).sound, le-ltb place (b.size * 2) (omega arith))

    pub lines_there : (p : Port) (x y : ℕ) → place / 2 < b.size → p ≡ port (side (place % 2 is 1)) (get_or b.chips (place / 2) blank) → x ≡ levels_now p → y ≡ driven_of p
        → told_by (Ok (record { levels = x; driven = y })) ≡ lines_of b place
    unfolding lines_of
    lines_there p x y k j ex ey =
        let s = (seen_ok b l h).sound in
        let q = j ∙ sym (port_there b s len place (omega arith)) in
        rw (s, lt-ltb place (b.size * 2) (omega arith), ex, ey, q)
