-- What a viewer reads of a recording has one text. Assumes nothing.
use Rattle.std.specs.Prelude.{if◌then◌else◌}
use mathlib.Core.Path.{◌≡◌, refl, sym, ap, ap₂, subst, ◌∙◌}
use mathlib.Core.List.{List, [], ◌∷◌, ◌++◌}
use Prim.Native.Nat.{ℕ, zero, suc, ◌+◌, ◌-◌, ◌≤◌, ◌<◌}
use native.Mathlib.Omega.{arith}
use lib.Dec.{ltb}
use lib.ListN.{length, length-map, get_or}
use borrow.Author.Tests.{eqb-true, eqb-false, eq-eqb, ne_eqb, ltb-true, ltb-false, le-leb}
use Rattle.bits.specs.Bits.{◌is◌}
use Rattle.bits.proofs.Logic.{by_cases}
use Rattle.board.specs.declared.Board.{Board}
use Rattle.records.specs.Records.{records}
use Rattle.frames.specs.Frames.{identifier, header}
use Rattle.viewer.specs.Reader.{Change, Frame, frames_in, written, unknown, changed_by, shown_from, shown_before}
use Rattle.viewer.specs.Recordings.{Each, times_in, values_after, Last, Changed, Ordered, Filled, times, Tells, OneText}
use Rattle.viewer.proofs.Frames.{Rising, shown_held}

-- ---- the changes of a frame, by the values before and after them
abbrev between : ℕ → ℕ → (ℕ → ℕ) → (ℕ → ℕ) → List Change
between zero from old new = []
between (suc n) from old new = (if new from is old from then [] else record { character = from; value = new from } ∷ []) ++ between n (suc from) old new

-- each change is one: the line was at another value
abbrev Real : (ℕ → ℕ) → List Change → Type 0
Real old cs = Each (λ (c : Change). old c.character ≡ c.value → ⊥) cs

changed_others : (from : ℕ) (cs : List Change) (character value : ℕ) → character < from → Ordered from cs → changed_by cs character value ≡ value
changed_others from [] character value h o = refl
changed_others from (c ∷ cs) character value h o =
    rw (ne_eqb c.character character (λ z. omega (arith, o.0))) (changed_others (suc c.character) cs character value (omega (arith, o.0)) o.1.1)

-- the first change of a frame shows
changed_first : (from : ℕ) (c : Change) (cs : List Change) (value : ℕ) → Ordered from (c ∷ cs) → changed_by (c ∷ cs) c.character value ≡ c.value
changed_first from c cs value o = rw (eq-eqb c.character c.character refl) (changed_others (suc c.character) cs c.character c.value (omega arith) o.1.1)

changed_later : (c : Change) (cs : List Change) (character value : ℕ) → c.character < character → changed_by (c ∷ cs) character value ≡ changed_by cs character value
changed_later c cs character value h = rw (ne_eqb c.character character (λ z. omega arith))

changes_between : (n from : ℕ) (old new : ℕ → ℕ) (cs : List Change) → from + n ≡ 42 → Ordered from cs → Real old cs
    → ((character : ℕ) → from ≤ character → character < 42 → new character ≡ changed_by cs character (old character)) → cs ≡ between n from old new
changes_between zero from old new [] e o r h = refl
changes_between zero from old new (c ∷ cs) e o r h = absurd (omega (arith, o.0, o.1.0))
changes_between (suc n) from old new [] e o r h =
    rw (eq-eqb (new from) (old from) (h from (omega arith) (omega arith)))
    (changes_between n (suc from) old new [] (omega arith) tt tt (λ character low high. h character (omega arith) high))
changes_between (suc n) from old new (c ∷ cs) e o r h =
    by_cases (c.character is from)
    (λ z.
    let here = eqb-true c.character from z in
    let value : new c.character ≡ c.value = h c.character o.0 o.1.0 ∙ changed_first from c cs (old c.character) o in
    rw (← here, value, ne_eqb c.value (old c.character) (λ q. r.0 (sym q)))
    (ap (λ (l : List Change). c ∷ l)
    (changes_between n (suc c.character) old new cs (omega (arith, e)) o.1.1 r.1
    (λ character low high. h character (omega arith) high ∙ changed_later c cs character (old character) low))))
    (λ z.
    let above : from < c.character = omega (arith, eqb-false c.character from z, o.0) in
    rw (eq-eqb (new from) (old from) (h from (omega arith) (omega arith) ∙ changed_others (suc from) (c ∷ cs) from (old from) (omega arith) (above, o.1)))
    (changes_between n (suc from) old new (c ∷ cs) (omega arith) (above, o.1) r (λ character low high. h character (omega arith) high)))

-- ---- frames whose times grow from n on, with changes in order, each of them one from the values before it
abbrev Neat : ℕ → (ℕ → ℕ) → List Frame → Type 0
Neat n old [] = Unit {0}
Neat n old (f ∷ fs) =
    (n ≤ f.time) × (Filled f × (Ordered identifier f.changes × (Real old f.changes × Neat (suc f.time) (λ character. changed_by f.changes character (old character)) fs)))

neat_rises : (n : ℕ) (old : ℕ → ℕ) (fs : List Frame) → Neat n old fs → Rising n (times fs)
neat_rises n old [] w = tt
neat_rises n old (f ∷ fs) w = (w.0, neat_rises (suc f.time) (λ character. changed_by f.changes character (old character)) fs w.1.1.1.1)

-- at its time a frame shows its changes
shown_now : (n : ℕ) (old : ℕ → ℕ) (f : Frame) (fs : List Frame) (character : ℕ) → Neat n old (f ∷ fs)
    → shown_from (old character) (f ∷ fs) f.time character ≡ changed_by f.changes character (old character)
shown_now n old f fs character w =
    rw (le-leb f.time f.time (omega arith))
    (shown_held (suc f.time) (changed_by f.changes character (old character)) fs f.time character (omega arith) (neat_rises n old (f ∷ fs) w).1)

shown_on : (f : Frame) (fs : List Frame) (value time character : ℕ) → f.time ≤ time
    → shown_from value (f ∷ fs) time character ≡ shown_from (changed_by f.changes character value) fs time character
shown_on f fs value time character h = rw (le-leb f.time time h)

-- and that is not what was shown before
some_move : (old : ℕ → ℕ) (cs : List Change) → 0 < length cs → Ordered identifier cs → Real old cs
    → ((character : ℕ) → identifier ≤ character → character < 42 → changed_by cs character (old character) ≡ old character) → ⊥
some_move old [] h o r same = absurd (omega arith)
some_move old (c ∷ cs) h o r same = r.0 (sym (same c.character o.0 o.1.0) ∙ changed_first identifier c cs (old c.character) o)

neat_moves : (n : ℕ) (old : ℕ → ℕ) (f : Frame) (fs : List Frame) → Neat n old (f ∷ fs)
    → ((character : ℕ) → identifier ≤ character → character < 42 → shown_from (old character) (f ∷ fs) f.time character ≡ old character) → ⊥
neat_moves n old f fs w same =
    some_move old f.changes w.1.0 w.1.1.0 w.1.1.1.0 (λ character low high. sym (shown_now n old f fs character w) ∙ same character low high)

-- ---- two rows of such frames that show the same are the same
abbrev Same : ℕ → (ℕ → ℕ) → List Frame → List Frame → Type 0
Same n old fs gs = (time character : ℕ) → n ≤ time → identifier ≤ character → character < 42 → shown_from (old character) fs time character ≡ shown_from (old character) gs time character

-- the first frame
frame_only : (n : ℕ) (old : ℕ → ℕ) (f : Frame) (fs : List Frame) (g : Frame) (gs : List Frame) → Neat n old (f ∷ fs) → Neat n old (g ∷ gs) → Same n old (f ∷ fs) (g ∷ gs) → f.time ≡ g.time → f ≡ g
frame_only n old f fs g gs w v same e =
    let after : (character : ℕ) → identifier ≤ character → character < 42 → changed_by f.changes character (old character) ≡ changed_by g.changes character (old character)
    = λ character low high. sym (shown_now n old f fs character w) ∙ same f.time character w.0 low high ∙ ap (λ (time : ℕ). shown_from (old character) (g ∷ gs) time character) e ∙ shown_now n old g gs character v in
    let new : ℕ → ℕ = λ character. changed_by g.changes character (old character) in
    let changes : f.changes ≡ g.changes
    = changes_between 9 identifier old new f.changes refl w.1.1.0 w.1.1.1.0 (λ character low high. sym (after character low high))
    ∙ sym (changes_between 9 identifier old new g.changes refl v.1.1.0 v.1.1.1.0 (λ character low high. refl)) in
    ap₂ (λ (time : ℕ) (cs : List Change). record { time = time; changes = cs }) e changes

earlier : (n : ℕ) (old : ℕ → ℕ) (f : Frame) (fs gs : List Frame) → Neat n old (f ∷ fs) → Rising (suc f.time) (times gs) → Same n old (f ∷ fs) gs → ⊥
earlier n old f fs gs w rise same =
    neat_moves n old f fs w
    (λ character low high. same f.time character w.0 low high ∙ shown_held (suc f.time) (old character) gs f.time character (omega arith) rise)

frames_only : (n : ℕ) (old : ℕ → ℕ) (fs gs : List Frame) → Neat n old fs → Neat n old gs → Same n old fs gs → fs ≡ gs
frames_only n old [] [] w v same = refl
frames_only n old [] (g ∷ gs) w v same = absurd (earlier n old g gs [] v tt (λ time character start low high. sym (same time character start low high)))
frames_only n old (f ∷ fs) [] w v same = absurd (earlier n old f fs [] w tt same)
frames_only n old (f ∷ fs) (g ∷ gs) w v same =
    by_cases (ltb f.time g.time)
    (λ z. absurd (earlier n old f fs (g ∷ gs) w (ltb-true f.time g.time z, (neat_rises n old (g ∷ gs) v).1) same))
    (λ z.
    by_cases (ltb g.time f.time)
    (λ y. absurd (earlier n old g gs (f ∷ fs) v (ltb-true g.time f.time y, (neat_rises n old (f ∷ fs) w).1) (λ time character start low high. sym (same time character start low high))))
    (λ y.
    let together : f.time ≡ g.time = omega (arith, ltb-false f.time g.time z, ltb-false g.time f.time y) in
    let e = frame_only n old f fs g gs w v same together in
    let v' : Neat n old (f ∷ gs) = subst (λ (x : Frame). Neat n old (x ∷ gs)) (sym e) v in
    let same' : Same n old (f ∷ fs) (f ∷ gs) = subst (λ (x : Frame). Same n old (f ∷ fs) (x ∷ gs)) (sym e) same in
    ap₂ (λ (x : Frame) (l : List Frame). x ∷ l) e
    (frames_only (suc f.time) (λ character. changed_by f.changes character (old character)) fs gs w.1.1.1.1 v'.1.1.1.1
    (λ time character start low high.
    sym (shown_on f fs (old character) time character (omega arith)) ∙ same' time character (omega (arith, w.0)) low high ∙ shown_on f gs (old character) time character (omega arith)))))

-- ---- the frames that are read are such frames
abbrev from_before : ℕ → List Frame → ℕ → ℕ → ℕ
from_before value fs zero character = value
from_before value fs (suc time) character = shown_from value fs time character

before_held : (value : ℕ) (fs : List Frame) (time character : ℕ) → Rising time (times fs) → from_before value fs time character ≡ value
before_held value fs zero character rise = refl
before_held value fs (suc time) character rise = shown_held (suc time) value fs time character (omega arith) rise

before_on : (f : Frame) (fs : List Frame) (value time character : ℕ) → f.time < time
    → from_before value (f ∷ fs) time character ≡ from_before (changed_by f.changes character value) fs time character
before_on f fs value zero character h = absurd (omega arith)
before_on f fs value (suc time) character h = shown_on f fs value time character (omega arith)

real : (old view : ℕ → ℕ) (cs : List Change) → ((character : ℕ) → view character ≡ old character) → Real view cs → Real old cs
real old view [] h r = tt
real old view (c ∷ cs) h r = ((λ e. r.0 (h c.character ∙ e)), real old view cs h r.1)

neat : (frames : List Frame) (n : ℕ) (old : ℕ → ℕ) (fs : List Frame) → Rising n (times fs) → Each Filled fs → Each (λ (f : Frame). Ordered identifier f.changes) fs → Each (Changed frames) fs
    → ((time character : ℕ) → n ≤ time → shown_before frames time character ≡ from_before (old character) fs time character) → Neat n old fs
neat frames n old [] rise full order changed view = tt
neat frames n old (f ∷ fs) rise full order changed view = (
  rise.0,
  (
    full.0,
    (
      order.0,
      (
        real old (shown_before frames f.time) f.changes
            (λ character. view f.time character rise.0 ∙ before_held (old character) (f ∷ fs) f.time character (omega arith, rise.1)) changed.0,
        neat frames (suc f.time) (λ character. changed_by f.changes character (old character)) fs rise.1 full.1 order.1 changed.1
            (λ time character start. view time character (omega (arith, rise.0)) ∙ before_on f fs (old character) time character start),
      ),
    ),
  ),
)

grown_rises : (n : ℕ) (l : List ℕ) → (0 < length l → n ≤ get_or l 0 0) → ((i : ℕ) → suc i < length l → get_or l i 0 < get_or l (suc i) 0) → Rising n l
grown_rises n [] start grows = tt
grown_rises n (time ∷ l) start grows = (start (omega arith), grown_rises (suc time) l (λ some. grows 0 (omega arith)) (λ i more. grows (suc i) (omega arith)))

-- ---- one record is the last up to a time
last_only : (ts : List ℕ) (time k j : ℕ) → Last ts time k → Last ts time j → k ≡ j
last_only ts time k j l m =
    by_cases (ltb k j)
    (λ z. absurd (omega (arith, m.reached, l.later j (ltb-true k j z) m.there)))
    (λ z.
    by_cases (ltb j k)
    (λ y. absurd (omega (arith, l.reached, m.later k (ltb-true j k y) l.there)))
    (λ y. omega (arith, ltb-false k j z, ltb-false j k y)))

at_first : (frames : List Frame) (time character : ℕ) → 0 ≤ time → shown_before frames time character ≡ from_before unknown frames time character
at_first frames zero character start = refl
at_first frames (suc time) character start = refl

module _ (b : Board) (events stamps : List ℕ) (fs gs : List Frame) (r : Tells b events stamps fs) (s : Tells b events stamps gs) where
  tells_neat : (frames : List Frame) → Tells b events stamps frames → Neat 0 (λ character. unknown) frames
  tells_neat frames t =
      neat frames 0 (λ character. unknown) frames
      (grown_rises 0 (times frames) (λ some. omega arith) (λ i more. t.grows i (rw length-map at more)))
      t.filled t.ordered t.changed (at_first frames)

  tells_same : 0 < length (records events) → Same 0 (λ character. unknown) fs gs
  tells_same some time character start low high =
      let mine = r.shown some time in
      let theirs = s.shown some time in
      let line = character - identifier in
      let named : identifier + line ≡ character = omega arith in
      let k = last_only (times_in stamps) time mine.k theirs.k mine.last theirs.last in
      rw named at (mine.values line (omega arith) ∙ ap (λ (j : ℕ). get_or (values_after b (records events) j) line 0) k ∙ sym (theirs.values line (omega arith)))

  tells_only : fs ≡ gs
  tells_only =
      by_cases (ltb 0 (length (records events)))
      (λ z. frames_only 0 (λ character. unknown) fs gs (tells_neat fs r) (tells_neat gs s) (tells_same (ltb-true 0 (length (records events)) z)))
      (λ z. let empty : length (records events) ≡ 0 = omega (arith, ltb-false 0 (length (records events)) z) in r.none empty ∙ sym (s.none empty))

pub one_text : OneText
one_text b events stamps text other r s =
    r.whole ∙ ap (λ (fs : List Frame). header ++ written fs) (tells_only b events stamps (frames_in text) (frames_in other) r.tells s.tells) ∙ sym s.whole
