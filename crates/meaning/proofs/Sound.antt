-- What `sound_board` says, without Bools.
-- Assumes nothing.
use mathlib.Core.Path.{◌≡◌, refl, sym}
use mathlib.Core.Bool.{Bool, true, false, ◌&&◌, ◌||◌, not, beq, false≢true}
use mathlib.Core.Logic.{◌↔◌, ◌⊎◌, inl, inr, ⊎_elim}
use mathlib.Core.List.{List, [], ◌∷◌}
use Prim.Native.Nat.{ℕ, ◌≤◌, ◌<◌, ◌%◌}
use lib.Dec.{ltb, leb}
use borrow.Author.Tests.{ltb-true, lt-ltb, leb-true, le-leb, eqb-true, eq-eqb}
use Rattle.bits.specs.Bits.{◌is◌}
use Rattle.bits.specs.Lines.{match_of}
use Rattle.port.specs.Rules.{match_now}
use Rattle.port.specs.Sound.{mode_ok, vector_ok, enable_ok, await_ok, shape_of, rests_of, sound_of}
use Rattle.port.specs.declared.Port.{Port}
use Rattle.chip.specs.declared.Chip.{Chip}
use Rattle.chip.specs.Chip.{A, B, two_way, follows}
use Rattle.chip.specs.Sound.{sound_port, sound_chip}
use Rattle.board.specs.Board.{there, sound_all, size_ok, sound_board}
use Rattle.meaning.specs.Words.{Each}
use Rattle.meaning.specs.Sound.{SoundPort, FollowsA, FollowsB, SoundPorts, SoundSays}

-- ---- a test and what it says
abbrev Says : Bool → Type 0 → Type 0
Says t X = (t ≡ true) ↔ X

both_say : (a b : Bool) {X Y : Type 0} → Says a X → Says b Y → Says (a && b) (X × Y)
both_say true b f g = (λ e. (f.0 refl, g.0 e), λ h. g.1 h.1)
both_say false b f g = (λ e. absurd (false≢true e), λ h. f.1 h.0)

less_says : (m n : ℕ) → Says (ltb m n) (m < n)
less_says m n = (ltb-true m n, lt-ltb m n)

least_says : (m n : ℕ) → Says (leb m n) (m ≤ n)
least_says m n = (leb-true m n, le-leb m n)

is_says : (m n : ℕ) → Says (m is n) (m ≡ n)
is_says m n = (eqb-true m n, eq-eqb m n)

self_says : (a : Bool) → Says a (a ≡ true)
self_says a = (λ e. e, λ e. e)

yes_says : Says true (Unit {0})
yes_says = (λ e. tt, λ h. refl)

no_says : Says false ⊥
no_says = (λ e. false≢true e, λ h. absurd h)

not_says : (a : Bool) {X : Type 0} → Says a X → Says (not a) (X → ⊥)
not_says true f = (λ e x. false≢true e, λ h. absurd (h (f.0 refl)))
not_says false f = (λ e x. false≢true (f.1 x), λ h. refl)

low_says : (a : Bool) → Says (not a) (a ≡ false)
low_says true = (λ e. sym e, λ e. sym e)
low_says false = (λ e. refl, λ e. refl)

either_says : (a b : Bool) {X Y : Type 0} → Says a X → Says b Y → Says (a || b) (X ⊎ Y)
either_says true b f g = (λ e. inl (f.0 refl), λ h. refl)
either_says false b f g = (λ e. inr (g.0 e), λ h. ⊎_elim (λ x. absurd (false≢true (f.1 x))) (λ y. g.1 y) h)

-- `not a || b`: if a then b
unless_says : (a b : Bool) {X Y : Type 0} → Says a X → Says b Y → Says (not a || b) (X → Y)
unless_says true b f g = (λ e x. g.0 e, λ h. g.1 (h (f.0 refl)))
unless_says false b f g = (λ e x. absurd (false≢true (f.1 x)), λ h. refl)

-- `not (a && b)`: not both; if b then not a
not_both_says : (a b : Bool) {X Y : Type 0} → Says a X → Says b Y → Says (not (a && b)) (X → Y → ⊥)
not_both_says true true f g = (λ e x y. false≢true e, λ h. absurd (h (f.0 refl) (g.0 refl)))
not_both_says true false f g = (λ e x y. false≢true (g.1 y), λ h. refl)
not_both_says false b f g = (λ e x y. false≢true (f.1 x), λ h. refl)

off_says : (a b : Bool) {Y : Type 0} → Says b Y → Says (not (a && b)) (Y → a ≡ false)
off_says true true g = (λ e y. sym e, λ h. sym (h (g.0 refl)))
off_says true false g = (λ e y. absurd (false≢true (g.1 y)), λ h. refl)
off_says false b g = (λ e y. refl, λ h. refl)

-- two tests are equal: one says what the other says
equal_says : (a b : Bool) {X : Type 0} → Says b X → Says (beq a b) ((a ≡ true) ↔ X)
equal_says true true f = (λ e. (λ i. f.0 refl, λ x. refl), λ h. refl)
equal_says true false f = (λ e. absurd (false≢true e), λ h. f.1 (h.0 refl))
equal_says false true f = (λ e. absurd (false≢true e), λ h. h.1 (f.0 refl))
equal_says false false f = (λ e. (λ i. absurd (false≢true i), λ x. f.1 x), λ h. refl)

-- ---- a port: document 01's list
match_says : (w : Bool) (p : Port) {W : Type 0} → Says w W → Says (match_now p && w) ((p.mode ≡ 3) × (p.awaiting ≡ 0) × (match_of p.select p.mask p.lines p.high p.all ≡ true) × W)
unfolding match_now
match_says w p s =
    let seen = match_of p.select p.mask p.lines p.high p.all in
    let all =
    both_say ((p.mode is 3) && (p.awaiting is 0) && seen) w
    (both_say ((p.mode is 3) && (p.awaiting is 0)) seen (both_say (p.mode is 3) (p.awaiting is 0) (is_says p.mode 3) (is_says p.awaiting 0)) (self_says seen)) s in
    (λ e. let h = all.0 e in (h.0.0.0, h.0.0.1, h.0.1, h.1), λ h. all.1 (((h.0, h.1), h.2), h.3))

port_says : (on_b f w : Bool) (p : Port) {O F W : Type 0} → Says on_b O → Says f F → Says w W → Says (sound_of on_b f w p) (SoundPort O F W p)
port_says on_b f w p b follow watch =
    let modes = both_say (ltb p.mode 4) (not (on_b && (p.mode is 2))) (less_says p.mode 4) (not_both_says on_b (p.mode is 2) b (is_says p.mode 2)) in
    let vectors = both_say (mode_ok on_b p.mode) (vector_ok p.vector) modes (is_says (p.vector % 2) 0) in
    let enables = both_say (mode_ok on_b p.mode && vector_ok p.vector) (enable_ok p.live p.asked) vectors (unless_says p.live p.asked (self_says p.live) (self_says p.asked)) in
    let selects = both_say (ltb p.awaiting 3) (not (p.awaiting is 1) || (p.mode is 3)) (less_says p.awaiting 3) (unless_says (p.awaiting is 1) (p.mode is 3) (is_says p.awaiting 1) (is_says p.mode 3)) in
    let masks = both_say (ltb p.awaiting 3 && (not (p.awaiting is 1) || (p.mode is 3))) (not (p.live && (p.awaiting is 2))) selects (off_says p.live (p.awaiting is 2) (is_says p.awaiting 2)) in
    let shapes = both_say (mode_ok on_b p.mode && vector_ok p.vector && enable_ok p.live p.asked) (await_ok p.awaiting p.mode p.live) enables masks in
    let rests = both_say (beq p.matched (match_now p && w)) (not f || (p.input is p.lines)) (equal_says p.matched (match_now p && w) (match_says w p watch)) (unless_says f (p.input is p.lines) follow (is_says p.input p.lines)) in
    let all = both_say (shape_of on_b p) (rests_of f w p) shapes rests in (
      λ e.
          let h = all.0 e in
          record {
            mode_known = h.0.0.0.0.0;
            mode_of_b = h.0.0.0.0.1;
            vector_even = h.0.0.0.1;
            live_asked = h.0.0.1;
            awaiting_known = h.0.1.0.0;
            awaiting_select = h.0.1.0.1;
            awaiting_mask = h.0.1.1;
            match_memory = h.1.0;
            input_follows = h.1.1;
          },
      λ s. all.1
          (((((s.mode_known, s.mode_of_b), s.vector_even), s.live_asked), ((s.awaiting_known, s.awaiting_select), s.awaiting_mask)), (s.match_memory, s.input_follows)),
    )

-- ---- a chip, a row of chips, a board
module _ (c : Chip) where
  a_follows : Says (follows A c) (FollowsA c)
  a_follows =
      either_says ((c.a.mode is 1) && not c.a.strobe) (two_way c && not c.b.strobe)
      (both_say (c.a.mode is 1) (not c.a.strobe) (is_says c.a.mode 1) (low_says c.a.strobe))
      (both_say (two_way c) (not c.b.strobe) (is_says c.a.mode 2) (low_says c.b.strobe))

  uncoupled : Says (not (two_way c)) (c.a.mode ≡ 2 → ⊥)
  uncoupled = not_says (two_way c) (is_says c.a.mode 2)

  b_follows : Says (follows B c) (FollowsB c)
  b_follows =
      let all =
      both_say ((c.b.mode is 1) && not c.b.strobe) (not (two_way c))
      (both_say (c.b.mode is 1) (not c.b.strobe) (is_says c.b.mode 1) (low_says c.b.strobe)) uncoupled in
      (λ e. let h = all.0 e in (h.0.0, h.0.1, h.1), λ h. all.1 ((h.0, h.1), h.2))

  ports_say : Says (sound_chip c) (SoundPorts c)
  unfolding sound_chip
  ports_say =
      let all =
      both_say (sound_port A c) (sound_port B c)
      (port_says false (follows A c) true c.a no_says a_follows yes_says)
      (port_says true (follows B c) (not (two_way c)) c.b yes_says b_follows uncoupled) in
      (λ e. record { at_a = (all.0 e).0; at_b = (all.0 e).1 }, λ s. all.1 (s.at_a, s.at_b))

row_says : (cs : List Chip) → Says (sound_all cs) (Each SoundPorts cs)
row_says [] = yes_says
row_says (c ∷ cs) = both_say (sound_chip c) (sound_all cs) (ports_say c) (row_says cs)

pub sound_says : SoundSays
unfolding sound_board
sound_says b =
    let sizes = both_say (leb 1 b.size) (leb b.size 4) (least_says 1 b.size) (least_says b.size 4) in
    let all = both_say (size_ok b.size) (sound_all (there b)) sizes (row_says (there b)) in (
      λ e. let h = all.0 e in record { size_least = h.0.0; size_most = h.0.1; chips = h.1 },
      λ s. all.1 ((s.size_least, s.size_most), s.chips),
    )
