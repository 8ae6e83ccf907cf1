-- One event at a sound chip, with no more settling than it can need, is the chip's step.
-- Assumes nothing.
use Rattle.std.specs.Prelude.{Some, None, Result, Ok, Err, if◌then◌else◌}
use mathlib.Core.Path.{◌≡◌, refl, sym, ap, ap₂, ◌∙◌}
use mathlib.Core.Bool.{Bool, true, false, ◌&&◌, ◌||◌, not, beq}
use Prim.Native.Nat.{ℕ}
use Rattle.bits.specs.Bits.{◌is◌}
use Rattle.bits.proofs.Logic.{both, beq_is}
use Rattle.port.specs.Fields.{input_at, waiting_at, matched_at, ready_at, strobe_at as port-strobe-at}
use Rattle.port.specs.Rules.{strobed, lines_now, match_now, settled, shown_of}
use Rattle.port.specs.Sound.{rests_of}
use Rattle.port.specs.declared.Port.{Port}
use Rattle.port.proofs.Rest.{rests_settled}
use Rattle.refusals.specs.declared.Refusal.{Refusal}
use Rattle.words.specs.Words.{obeyed}
use Rattle.words.specs.declared.Word.{Word}
use Rattle.words.specs.declared.Word.TheVariants.{Vector, Mode, Interrupt, Enable, Select, Mask}
use Rattle.chip.specs.declared.Chip.{Chip}
use Rattle.chip.specs.Chip.{Side, A, B, side, port, put, two_way, off, follows, settle}
use Rattle.chip.specs.Sound.{sound_chip}
use Rattle.chip.proofs.Keep.{apart, rest_same}
use Rattle.events.specs.declared.Acted.{Acted}
use Rattle.events.specs.declared.Event.TheVariants.{Control, Write, Read, Strobe, Outside}
use Rattle.events.specs.Events.{acts, heard, obey, word_taken, control_of, changed}
use Rattle.events.specs.Act.{step, done, word_outcome, outcome_of}
use Rattle.shortcuts.specs.Follow.{followed}

abbrev made : Port → Port → Chip
made a b = record { a = a; b = b }

-- ---- a port whose match memory is right: settling only lets the input register follow
matched_now : (f w : Bool) (p : Port) → rests_of f w p ≡ true → p.matched ≡ (match_now p && w)
matched_now f w p e = beq_is p.matched (match_now p && w) (both (beq p.matched (match_now p && w)) (not f || (p.input is p.lines)) e).0

no_edge : (w m : Bool) → (w || (m && not m)) ≡ w
no_edge true m = refl
no_edge false true = refl
no_edge false false = refl

put_back : (p : Port) (i : ℕ) (w m : Bool) → w ≡ p.waiting → m ≡ p.matched → input_at i (waiting_at w (matched_at m p)) ≡ input_at i p
put_back p i w m f g = rw (f, g)

settled_input : (f w : Bool) (p : Port) → p.matched ≡ (match_now p && w) → input_at (if f then p.lines else p.input) p ≡ settled f w p
settled_input f w p m =
    sym
    (put_back p (if f then p.lines else p.input) (p.waiting || (match_now p && w && not p.matched)) (match_now p && w)
    (rw (← m) (no_edge p.waiting p.matched)) (sym m))

-- ---- data: nothing is left to settle
write_rests : (s : Side) (v : ℕ) (c : Chip) → sound_chip c ≡ true → changed s (Write v) c ≡ settle (changed s (Write v) c)
unfolding match_now
write_rests A v c h = sym (rest_same (changed A (Write v) c) (apart c h).1)
write_rests B v c h = sym (rest_same (changed B (Write v) c) (apart c h).1)

read_rests : (s : Side) (c : Chip) → sound_chip c ≡ true → changed s Read c ≡ settle (changed s Read c)
unfolding match_now
read_rests A c h = sym (rest_same (changed A Read c) (apart c h).1)
read_rests B c h = sym (rest_same (changed B Read c) (apart c h).1)

module _ (c : Chip) (s : Bool) where
  -- ---- a strobe: no match changes
  follows_all : (d : Chip) → d.a.matched ≡ (match_now d.a && true) → d.b.matched ≡ (match_now d.b && not (off B d)) → followed d ≡ settle d
  follows_all d m n = ap₂ (λ (x y : Port). made x y) (settled_input (follows A d) true d.a m) (settled_input (follows B d) (not (off B d)) d.b n)

  strobe_side : (t : Side) (level : Bool) → sound_chip c ≡ true → followed (changed t (Strobe level) c) ≡ step t (Strobe level) c
  unfolding step match_now
  strobe_side A level h =
      let r = (apart c h).1 in
      follows_all (changed A (Strobe level) c) (matched_now (follows A c) true c.a r.0) (matched_now (follows B c) (not (off B c)) c.b r.1)
  strobe_side B level h =
      let r = (apart c h).1 in
      follows_all (changed B (Strobe level) c) (matched_now (follows A c) true c.a r.0) (matched_now (follows B c) (not (off B c)) c.b r.1)

-- ---- outside levels: the other port is as it was
lines_side : (s : Side) (v : ℕ) (c : Chip) → sound_chip c ≡ true
    → put s (settled (follows s c) (not (off s c)) (lines_now v (port s c))) c ≡ step s (Outside v) c
unfolding step
lines_side A v c h = ap (made (settled (follows A c) true (lines_now v c.a))) (sym (rests_settled (follows B c) (not (off B c)) c.b (apart c h).1.1))
lines_side B v c h = ap (λ (x : Port). made x (settled (follows B c) (not (off B c)) (lines_now v c.b))) (sym (rests_settled (follows A c) true c.a (apart c h).1.0))

off_is : (s : Bool) (c : Chip) → (s && (c.a.mode is 2)) ≡ off (side s) c
off_is true c = refl
off_is false c = refl

pub lines_is : (c : Chip) (s : Bool) (v : ℕ) (f : Bool) (p q : Port) → p ≡ lines_now v (port (side s) c) → f ≡ follows (side s) c → q ≡ settled f (not (s && (c.a.mode is 2))) p
    → sound_chip c ≡ true → put (side s) q c ≡ step (side s) (Outside v) c
lines_is c s v f p q i j k h = rw (k, j, i, off_is s c) (lines_side (side s) v c h)

-- a strobe that stays at its level ends nothing
never : (s acts : Bool) → (not s && s && acts) ≡ false
never true acts = refl
never false acts = refl

keeps_ready : (r e : Bool) → e ≡ false → (r && not e) ≡ r
keeps_ready true e h = rw h
keeps_ready false e h = refl

keeps_waiting : (w e : Bool) → e ≡ false → (w || e) ≡ w
keeps_waiting true e h = refl
keeps_waiting false e h = h

keeps_both : (p : Port) (r w : Bool) → r ≡ p.ready → w ≡ p.waiting → port-strobe-at p.strobe (ready_at r (waiting_at w p)) ≡ p
keeps_both p r w e f = rw (e, f)

strobed_same : (acts : Bool) (p : Port) → strobed acts p.strobe p ≡ p
strobed_same acts p =
    let e = never p.strobe acts in
    keeps_both p (p.ready && not (not p.strobe && p.strobe && acts)) (p.waiting || (not p.strobe && p.strobe && acts))
    (keeps_ready p.ready _ e) (keeps_waiting p.waiting _ e)

strobe_both : (c : Chip) (s level : Bool) → sound_chip c ≡ true
    → followed (made (strobed (acts A c) (if s then c.a.strobe else level) c.a) (strobed (acts B c) (if s then level else c.b.strobe) c.b)) ≡ step (side s) (Strobe level) c
strobe_both c true level h = ap (λ (x : Port). followed (made x (strobed (acts B c) level c.b))) (strobed_same (acts A c) c.a) ∙ strobe_side c true B level h
strobe_both c false level h = ap (λ (x : Port). followed (made (strobed (acts A c) level c.a) x)) (strobed_same (acts B c) c.b) ∙ strobe_side c false A level h

pub strobe_is : (c : Chip) (s level x y : Bool) (p q : Port) (d : Chip) → x ≡ (if s then c.a.strobe else level) → y ≡ (if s then level else c.b.strobe)
    → p ≡ strobed (acts A c) x c.a → q ≡ strobed (acts B c) y c.b → d ≡ followed (made p q) → sound_chip c ≡ true → d ≡ step (side s) (Strobe level) c
strobe_is c s level x y p q d e f i j k h = rw (k, i, j, e, f) (strobe_both c s level h)

-- ---- a control word to B: no word moves the strobe, so A rests as before
obeyed_strobe : (linked : Bool) (p : Port) (w : Word) → (obeyed linked p w).strobe ≡ p.strobe
obeyed_strobe linked p (Vector v) = refl
obeyed_strobe linked p (Mode m) = refl
obeyed_strobe linked p (Interrupt on all high true) = refl
obeyed_strobe linked p (Interrupt on all high false) = refl
obeyed_strobe linked p (Enable on) = refl
obeyed_strobe linked p (Select v) = refl
obeyed_strobe linked p (Mask v) = refl

a_rests : (c : Chip) (w : Word) → sound_chip c ≡ true → settled (follows A (obey B w c)) true c.a ≡ c.a
a_rests c w h =
    ap (λ (t : Bool). settled (((c.a.mode is 1) && not c.a.strobe) || (two_way c && not t)) true c.a) (obeyed_strobe (two_way c) c.b w)
    ∙ rests_settled (follows A c) true c.a (apart c h).1.0

settled_b : (s : Bool) (w : Word) (c d : Chip) → s ≡ true → d ≡ obey (side s) w c → sound_chip c ≡ true
    → made d.a (settled (follows B d) (not (d.a.mode is 2)) d.b) ≡ settle d
settled_b s w c d b q g = rw (q, b) (ap (λ (x : Port). made x (settle (obey B w c)).b) (sym (a_rests c w g)))

word_to_b : (s : Bool) (c d : Chip) (h : Result Word Refusal) (f : Bool) (q : Port) → s ≡ true → Ok d ≡ word_taken (side s) h c
    → f ≡ follows B d → q ≡ settled f (not (d.a.mode is 2)) d.b → sound_chip c ≡ true
    → ◌≡◌ {A = Result Acted Refusal} (Ok (record { chip = made d.a q; shown = None })) (word_outcome (word_taken (side s) h c))
word_to_b s c d (Ok w) f q b e k j g =
    let o : d ≡ obey (side s) w c = cc in
    rw (j, k, settled_b s w c d b o g, o)
word_to_b s c d (Err r) f q b e k j g = cc

pub word_b : (s : Bool) (v : ℕ) (c d : Chip) (r : Result Chip Refusal) (f : Bool) (q : Port) → s ≡ true → r ≡ control_of (side s) v c → r ≡ Ok d
    → f ≡ follows B d → q ≡ settled f (not (d.a.mode is 2)) d.b → sound_chip c ≡ true
    → ◌≡◌ {A = Result Acted Refusal} (Ok (record { chip = made d.a q; shown = None })) (outcome_of (side s) (Control v) c)
unfolding outcome_of
word_b s v c d r f q b e i k j g = word_to_b s c d (heard (side s) v c) f q b (sym i ∙ e) k j g

-- ---- data
pub write_is : (c : Chip) (s : Bool) (v : ℕ) (d : Chip) → d ≡ changed (side s) (Write v) c → sound_chip c ≡ true → d ≡ step (side s) (Write v) c
unfolding step
write_is c s v d i g = i ∙ write_rests (side s) v c g

pub read_is : (c : Chip) (s : Bool) (n : ℕ) (d : Chip) (p : Port) → p ≡ port (side s) c → d ≡ changed (side s) Read c → n ≡ shown_of p → sound_chip c ≡ true
    → ◌≡◌ {A = Result Acted Refusal} (Ok (record { chip = d; shown = Some n })) (outcome_of (side s) Read c)
unfolding outcome_of
read_is c s n d p j i l g = rw (l, j) (ap (λ (x : Chip). done x (Some (shown_of (port (side s) c)))) (i ∙ read_rests (side s) c g))
