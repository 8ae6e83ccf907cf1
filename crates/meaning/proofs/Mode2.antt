-- Mode 2, sentence by sentence: the whole chip before the settling, and then what settling adds to it.
-- Assumes nothing.
use Rattle.std.specs.Prelude.{Result, Ok, Err, if◌then◌else◌}
use mathlib.Core.Path.{◌≡◌, refl, sym, ap, ap₂, ◌∙◌, subst}
use mathlib.Core.Bool.{Bool, true, false, ◌&&◌, ◌||◌, not, beq, or-true, or-false, and-true, and-false, true≢false, false≢true}
use mathlib.Core.List.{List, [], ◌∷◌}
use Prim.Native.Nat.{ℕ, ◌*◌, ◌<◌}
use native.Mathlib.Omega.{arith}
use lib.Dec.{leb, leb-zero, leb-suc-suc}
use borrow.Author.Tests.{eqb-true, lt-ltb, leb-true}
use Rattle.bits.specs.Bits.{◌is◌}
use Rattle.bits.specs.Lines.{levels_of}
use Rattle.bits.proofs.Logic.{both}
use Rattle.bits.proofs.BitLaws.{byte_is}
use Rattle.port.specs.Fields.{mode_at, out_at, input_at, lines_at, strobe_at, ready_at, waiting_at, matched_at}
use Rattle.port.specs.Rules.{match_now, written, accessed, strobed}
use Rattle.port.specs.declared.Port.{Port}
use Rattle.words.specs.Words.{obeyed}
use Rattle.words.specs.declared.Word.{Word}
use Rattle.words.specs.declared.Word.TheVariants.{Vector, Mode, Interrupt, Enable, Select, Mask}
use Rattle.refusals.specs.declared.Refusal.{Refusal}
use Rattle.chip.specs.declared.Chip.{Chip}
use Rattle.chip.specs.Chip.{Side, A, B, on, two_way, settle}
use Rattle.chip.specs.Sound.{sound_chip}
use Rattle.chip.proofs.Keep.{settle_same}
use Rattle.events.specs.declared.Event.{Event}
use Rattle.events.specs.declared.Event.TheVariants.{Control, Write, Read, Strobe, Outside}
use Rattle.events.specs.Events.{heard, obey, changed}
use Rattle.events.specs.Act.{event_of, step_word, step}
use Rattle.events.proofs.Touch.{obeyed_leaves}
use Rattle.chain.specs.Places.{adjust}
use Rattle.chain.specs.Chain.{most, ready, under, asker, flat}
use Rattle.board.specs.declared.Board.{Board}
use Rattle.board.specs.Board.{there, sound_all, sound_board}
use Rattle.board.specs.declared.Doing.TheVariants.{At}
use Rattle.board.specs.Step.{Stepped, doing_of, taken, refusal, accepted, step_of}
use Rattle.board.proofs.There.{there_taken}
use Rattle.board.proofs.Quick.{parts, after_quick, taken_sound}
use Rattle.demands.proofs.Refusals.{step_accepted}
use Rattle.demands.proofs.Demand3.{acknowledge_accepted, no_request}
use Rattle.meaning.specs.Mode2.{ended, InMode2, Mode2, Mode2Settles, Recouples, OneChip, BAnswers}

-- a chip with A in mode 2, by its ports
abbrev coupled : Port → Port → Chip
coupled a b = record { a = mode_at 2 a; b = b }

coupled_is : (c : Chip) → two_way c ≡ true → coupled c.a c.b ≡ c
coupled_is c e = ap (λ (m : ℕ). record { a = mode_at m c.a; b = c.b }) (sym (eqb-true c.a.mode 2 e))

flip : (t : Bool) (x y : ℕ) → (if not t then x else y) ≡ (if t then y else x)
flip true x y = refl
flip false x y = refl

-- the three fields that settling may change
changed_to : (p : Port) {i j : ℕ} {v w m n : Bool} → i ≡ j → v ≡ w → m ≡ n → input_at i (waiting_at v (matched_at m p)) ≡ input_at j (waiting_at w (matched_at n p))
changed_to p e f g = rw (e, f, g)

never : (f : Bool) (x y : ℕ) → (if f && false then x else y) ≡ y
never f x y = rw (and-false f)

settles : (a b : Port) → settle (coupled a b) ≡ record { a = input_at (if b.strobe then a.input else a.lines) (matched_at false (mode_at 2 a)); b = matched_at false b }
unfolding match_now
settles a b =
    ap₂ (λ (x y : Port). record { a = x; b = y })
    (changed_to (mode_at 2 a) (flip b.strobe a.lines a.input) (or-false a.waiting) refl)
    (changed_to b (never ((b.mode is 1) && not b.strobe) b.lines b.input) (rw (and-false (match_now b)) (or-false b.waiting)) (and-false (match_now b)))

pub coupled_settles : Mode2Settles
coupled_settles c e =
    subst (λ (d : Chip). settle d ≡ record { a = input_at (if d.b.strobe then d.a.input else d.a.lines) (matched_at false d.a); b = matched_at false d.b })
    (coupled_is c e) (settles c.a c.b)

-- ---- B's input register, and what words do to B's Ready
settled_input : (c : Chip) → two_way c ≡ true → (settle c).b.input ≡ c.b.input
settled_input c e = ap (λ (d : Chip). d.b.input) (coupled_settles c e)

word_input : (s : Side) (h : Result Word Refusal) (c : Chip) → two_way (step_word s h c) ≡ true → (step_word s h c).b.input ≡ c.b.input
word_input A (Ok w) c e = settled_input (obey A w c) e
word_input B (Ok w) c e = settled_input (obey B w c) e ∙ (obeyed_leaves (two_way c) c.b w).1
word_input s (Err r) c e = refl

stays : (c : Chip) (s : Side) (e : Event) → two_way (step s e c) ≡ true → (step s e c).b.input ≡ c.b.input
unfolding step
stays c s (Control v) t = word_input s (heard s v c) c t
stays c A (Write v) t = settled_input (changed A (Write v) c) t
stays c B (Write v) t = settled_input (changed B (Write v) c) t
stays c A Read t = settled_input (changed A Read c) t
stays c B Read t = settled_input (changed B Read c) t
stays c A (Strobe level) t = settled_input (changed A (Strobe level) c) t
stays c B (Strobe level) t = settled_input (changed B (Strobe level) c) t
stays c A (Outside v) t = settled_input (changed A (Outside v) c) t
stays c B (Outside v) t = settled_input (changed B (Outside v) c) t

linked_ready : (p : Port) (w : Word) → (obeyed true p w).ready ≡ p.ready
linked_ready p (Vector v) = refl
linked_ready p (Mode m) = and-true p.ready
linked_ready p (Interrupt on all high true) = refl
linked_ready p (Interrupt on all high false) = refl
linked_ready p (Enable on) = refl
linked_ready p (Select v) = refl
linked_ready p (Mask v) = refl

-- ---- the lines that A drives
none_driven : (x : ℕ) → levels_of x 0 ≡ 0
unfolding levels_of
none_driven x = simp and-false

all_driven : (x : ℕ) → x < 256 → levels_of x 255 ≡ x
unfolding levels_of
all_driven x h = simp and-true (sym (byte_is x h))

driven : (high : Bool) (x : ℕ) → x < 256 → levels_of x (if high then 0 else 255) ≡ (if high then 0 else x)
driven true x h = none_driven x
driven false x h = all_driven x h

-- ---- a sound chip with A in mode 2
no_edge : (s : Bool) → (not s && s && true) ≡ false
no_edge true = refl
no_edge false = refl

module _ (a b : Port) (h : sound_chip (coupled a b) ≡ true) where
  at_rest : record { a = input_at (if b.strobe then a.input else a.lines) (matched_at false (mode_at 2 a)); b = matched_at false b } ≡ coupled a b
  at_rest = sym (settles a b) ∙ settle_same (coupled a b) h

  -- ports with the match memory of these
  follow : (p q : Port) → p.matched ≡ a.matched → q.matched ≡ b.matched → settle (coupled p q) ≡ coupled (input_at (if q.strobe then p.input else p.lines) p) q
  follow p q e f =
      let m = ap (λ (c : Chip). c.a.matched) at_rest ∙ sym e in
      let n = ap (λ (c : Chip). c.b.matched) at_rest ∙ sym f in
      settles p q ∙ ap₂ (λ (x y : Bool). record { a = input_at (if q.strobe then p.input else p.lines) (matched_at x (mode_at 2 p)); b = matched_at y q }) m n

  -- and with their lines and input registers: they are at rest
  rest : (p q : Port) → p.matched ≡ a.matched → q.matched ≡ b.matched → q.strobe ≡ b.strobe → p.input ≡ a.input → p.lines ≡ a.lines → settle (coupled p q) ≡ coupled p q
  rest p q e f g i l = follow p q e f ∙ ap (λ (x : ℕ). coupled (input_at x p) q) (rw (g, i, l) (ap (λ (c : Chip). c.a.input) at_rest))

  in_mode2 : InMode2 (coupled a b)
  unfolding step
  in_mode2 = record {
    a_write = λ v.
        rest (written false v (mode_at 2 a)) b refl refl refl refl refl
        ∙ ap (λ (r : Bool). coupled (out_at v (ready_at r a)) b) (or-true a.ready);
    a_shows = refl;
    a_read =
        rest (accessed false (mode_at 2 a)) (ready_at (b.ready || true) b) refl refl refl refl refl
        ∙ ap₂ (λ (r s : Bool). coupled (ready_at r a) (ready_at s b)) (or-false a.ready) (or-true b.ready);
    a_rise = λ e.
        rest (strobed true true (mode_at 2 a)) b refl refl refl refl refl
        ∙ ap₂ (λ (r w : Bool). coupled (strobe_at true (ready_at r (waiting_at w a))) b) (rw e (and-false a.ready)) (rw e (or-true a.waiting));
    a_fall = rest (strobed true false (mode_at 2 a)) b refl refl refl refl refl ∙ fallen;
    a_fall_at_once = fallen;
    a_repeats =
        rest (strobed true a.strobe (mode_at 2 a)) b refl refl refl refl refl
        ∙ ap₂ (λ (r w : Bool). coupled (ready_at r (waiting_at w a)) b) (rw (no_edge a.strobe) (and-true a.ready)) (rw (no_edge a.strobe) (or-false a.waiting));
    b_fall =
        follow a (strobed true false b) refl refl
        ∙ ap₂ (λ (r w : Bool). coupled (input_at a.lines a) (strobe_at false (ready_at r (waiting_at w b)))) (rw (and-false (not b.strobe)) (and-true b.ready)) (rw (and-false (not b.strobe)) (or-false b.waiting));
    a_lines = λ v. follow (lines_at v a) b refl refl;
    b_rise = λ e.
        follow a (strobed true true b) refl refl
        ∙ ap₂ (λ (r w : Bool). coupled a (strobe_at true (ready_at r (waiting_at w b)))) (rw e (and-false b.ready)) (rw e (or-true b.waiting));
    b_repeats =
        rest a (strobed true b.strobe b) refl refl refl refl refl
        ∙ ap₂ (λ (r w : Bool). coupled a (ready_at r (waiting_at w b))) (rw (no_edge b.strobe) (and-true b.ready)) (rw (no_edge b.strobe) (or-false b.waiting));
    b_lines = λ v. rest a (lines_at v b) refl refl refl refl refl;
    b_input = stays (coupled a b);
    b_write = λ v. rest a (written true v b) refl refl refl refl refl ∙ ap (λ (r : Bool). coupled a (out_at v (ready_at r b))) (or-false b.ready);
    b_read = rest a (accessed true b) refl refl refl refl refl ∙ ap (λ (r : Bool). coupled a (ready_at r b)) (or-false b.ready);
    b_word = λ v. word_ready (heard B v (coupled a b));
    a_drives = refl;
    a_levels = driven a.strobe a.out;
  }
    where
      fallen : changed A (Strobe false) (coupled a b) ≡ coupled (strobe_at false a) b
      fallen = ap₂ (λ (r w : Bool). coupled (strobe_at false (ready_at r (waiting_at w a))) b) (rw (and-false (not a.strobe)) (and-true a.ready)) (rw (and-false (not a.strobe)) (or-false a.waiting))

      word_ready : (w : Result Word Refusal) → (step_word B w (coupled a b)).b.ready ≡ b.ready
      word_ready (Ok w) = linked_ready b w
      word_ready (Err r) = refl

pub mode2 : Mode2
mode2 c h e = subst InMode2 (coupled_is c e) (in_mode2 c.a c.b (rw (coupled_is c e) h))

-- ---- A enters or leaves mode 2
apart : (r t u : Bool) → u ≡ not t → (r && beq t u) ≡ false
apart r true u e = rw e (and-false r)
apart r false u e = rw e (and-false r)

never_its_opposite : (t : Bool) → t ≡ not t → ⊥
never_its_opposite true e = true≢false e
never_its_opposite false e = false≢true e

word_recouples : (h : Result Word Refusal) (c : Chip) → two_way (step_word A h c) ≡ not (two_way c) → (step_word A h c).b.ready ≡ false
word_recouples (Ok w) c e = apart c.b.ready (two_way c) (two_way (obey A w c)) e
word_recouples (Err r) c e = absurd (never_its_opposite (two_way c) e)

pub recouples : Recouples
unfolding step
recouples c v e = word_recouples (heard A v c) c e

-- ---- the board
pub one_chip : OneChip
one_chip b place e h = there_taken b (At place e) ∙ after_quick b.decoder (At place e) (there b) (parts b h).1

-- the nearest chip, after the rise of B's strobe
nearest_is : (b : Board) (c : Chip) (cs : List Chip) → sound_board b ≡ true → there b ≡ c ∷ cs → two_way c ≡ true → c.b.strobe ≡ false → there (taken b (At 1 (Strobe true))) ≡ on B ended c ∷ cs
nearest_is b c cs h e t f =
    let all : sound_all (c ∷ cs) ≡ true = rw e at (parts b h).1 in
    let one = (both (sound_chip c) (sound_all cs) all).0 in
    one_chip b 1 (Strobe true) h ∙ ap (adjust (step B (Strobe true)) 0) e ∙ ap (λ (d : Chip). d ∷ cs) ((mode2 c one t).b_rise f)

rise_accepted : (b : Board) → sound_board b ≡ true → (step_of b (6 ∷ 1 ∷ 1 ∷ 0 ∷ [])).board ≡ taken b (At 1 (Strobe true))
unfolding refusal accepted doing_of event_of
rise_accepted b h =
    let s = both (leb 1 b.size) (leb b.size most) (parts b h).0 in
    ap (λ (r : Stepped). r.board) (step_accepted b (6 ∷ 1 ∷ 1 ∷ 0 ∷ []) refl (rw (h, lt-ltb 1 (b.size * 2) (omega (arith, leb-true 1 b.size s.0)))))

-- the row of a chip whose B asks
b_asks : (c : Chip) (cs : List Chip) → c.b.live ≡ true → ready c.a ≡ false → under c.a ≡ false → under c.b ≡ false → asker (flat (on B ended c ∷ cs)) ≡ 1
b_asks c cs l r u v = rw (r, u, v, l)

pub b_answers : BAnswers
unfolding accepted doing_of
b_answers b c cs h e t f l r u v =
    let sound = taken_sound b (At 1 (Strobe true)) refl h in
    rw (
      rise_accepted b h,
      acknowledge_accepted (taken b (At 1 (Strobe true))) sound,
      no_request (taken b (At 1 (Strobe true))) sound,
      nearest_is b c cs h e t f,
      b_asks c cs l r u v,
      leb-suc-suc,
      leb-suc-suc,
      leb-zero,
    )
