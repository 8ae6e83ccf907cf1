-- Lists of refusals, of any length: the verdict is the code of the first true line. And the step's answer by whether it is refused.
-- Assumes nothing.
use mathlib.Core.Path.{◌≡◌, refl, sym, ap, ◌∙◌}
use mathlib.Core.Bool.{Bool, true, false, ◌&&◌, not, true≢false, false≢true}
use mathlib.Core.List.{List, [], ◌∷◌}
use Prim.Native.Nat.{ℕ, zero, suc, ◌≤◌}
use native.Mathlib.Omega.{arith}
use lib.ListN.{length, drop}
use borrow.Author.Tests.{eqb-true, ne_eqb, not-true}
use Rattle.bits.specs.Bits.{◌is◌}
use Rattle.bits.proofs.Logic.{by_cases, both}
use Rattle.events.specs.declared.Event.{Event}
use Rattle.events.specs.declared.Event.TheVariants.{Control, Write, Read, Strobe, Outside}
use Rattle.chain.specs.Chain.{asks}
use Rattle.board.specs.declared.Board.{Board}
use Rattle.board.specs.Board.{ports, request_of}
use Rattle.board.specs.declared.Doing.{Doing}
use Rattle.board.specs.declared.Doing.TheVariants.{Reset, Fetch, Acknowledge, At}
use Rattle.board.specs.Step.{value_of, Line, line, verdict, lines, refusal, doing_of, taken, answer_at, answered, accepted, refused, step_of}
use Rattle.demands.specs.Words.{listed, decides}

-- ---- what all codes have, the verdict has
abbrev pub each : (ℕ → Bool) → List Line → Bool
each f [] = true
each f (line t code ∷ l) = f code && each f l

pub verdict_each : (f : ℕ → Bool) (l : List Line) → each f l ≡ true → (verdict l is 0) ≡ false → f (verdict l) ≡ true
verdict_each f [] a h = absurd (true≢false h)
verdict_each f (line true code ∷ l) a h = (both (f code) (each f l) a).0
verdict_each f (line false code ∷ l) a h = verdict_each f l (both (f code) (each f l) a).1 h

-- ---- where no two lines have one code, a code is given exactly if its line decides
abbrev pub lacks : ℕ → List Line → Bool
lacks code l = each (λ other. not (other is code)) l

abbrev pub distinct : List Line → Bool
distinct [] = true
distinct (line t code ∷ l) = lacks code l && distinct l

nonzero : (c : ℕ) → 1 ≤ c → (0 is c) ≡ false
nonzero c h = ne_eqb 0 c (λ e. omega (arith, e))

lacking : (c : ℕ) (l : List Line) → 1 ≤ c → lacks c l ≡ true → (verdict l is c) ≡ false
lacking c l h a = by_cases (verdict l is 0)
    (λ e. ap (λ (n : ℕ). n is c) (eqb-true (verdict l) 0 e) ∙ nonzero c h)
    (λ e. not-true (verdict l is c) (verdict_each (λ n. not (n is c)) l a e))

pub verdict_decides : (l : List Line) → distinct l ≡ true → (c : ℕ) → 1 ≤ c → (verdict l is c) ≡ decides c l
verdict_decides [] d c h = nonzero c h
verdict_decides (line true o ∷ l) d c h = by_cases (o is c) (λ e. rw e) (λ e. rw e)
verdict_decides (line false o ∷ l) d c h =
    let s = both (lacks o l) (distinct l) d in
    by_cases (o is c)
    (λ e. rw e (lacking c l h (rw (eqb-true o c e) at s.0)))
    (λ e. rw e (verdict_decides l s.1 c h))

-- ---- a verdict of 0 is given only if no line is true
abbrev pub none_true : List Line → Bool
none_true [] = true
none_true (line t code ∷ l) = not t && none_true l

pub verdict_none : (l : List Line) → lacks 0 l ≡ true → (verdict l is 0) ≡ true → none_true l ≡ true
verdict_none [] a h = refl
verdict_none (line true code ∷ l) a h = absurd (true≢false (sym (both (not (code is 0)) (lacks 0 l) a).0 ∙ ap not h))
verdict_none (line false code ∷ l) a h = verdict_none l (both (not (code is 0)) (lacks 0 l) a).1 h

pub none_drop : (k : ℕ) (l : List Line) → none_true l ≡ true → none_true (drop k l) ≡ true
none_drop zero l h = h
none_drop (suc k) [] h = h
none_drop (suc k) (line t code ∷ l) h = none_drop k l (both (not t) (none_true l) h).1

-- ---- what all numbers of a list have, a listed one has
abbrev pub all : (ℕ → Bool) → List ℕ → Bool
all f [] = true
all f (n ∷ l) = f n && all f l

pub listed_all : (f : ℕ → Bool) (n : ℕ) (l : List ℕ) → all f l ≡ true → listed n l ≡ true → f n ≡ true
listed_all f n [] a h = absurd (false≢true h)
listed_all f n (m ∷ l) a h =
    let s = both (f m) (all f l) a in
    by_cases (m is n) (λ e. rw (eqb-true m n e) at s.0) (λ e. listed_all f n l s.1 (rw e at h))

-- ---- the code of an accepted event is 0, 1, 2 or 3
abbrev pub low : List ℕ
low = 0 ∷ 1 ∷ 2 ∷ 3 ∷ []

at_code : (b : Board) (place : ℕ) (e : Event) (v r : ℕ) → listed (answer_at b place e v r).code low ≡ true
at_code b place (Control w) v r = refl
at_code b place (Write w) v r = refl
at_code b place Read v r = refl
at_code b place (Strobe level) v r = refl
at_code b place (Outside w) v r = refl

answered_code : (b : Board) (e : Doing) (v r : ℕ) → listed (answered b e v r).code low ≡ true
answered_code b Reset v r = refl
answered_code b (Fetch byte) v r = refl
answered_code b Acknowledge v r = by_cases (asks (ports b)) (λ h. rw h) (λ h. rw h)
answered_code b (At place e) v r = at_code b place e v r

-- ---- a step of four bytes is accepted or refused
module _ (b : Board) (e : List ℕ) (four : length e ≡ 4) where
  pub step_accepted : (refusal b e is 0) ≡ true → step_of b e ≡ accepted b e
  unfolding step_of
  step_accepted h = rw (four, h)

  pub step_refused : (refusal b e is 0) ≡ false → step_of b e ≡ refused b e
  unfolding step_of
  step_refused h = rw (four, h)

  -- with one of those codes, or with that of the first true line
  pub accepted_code : (f : ℕ → Bool) → all f low ≡ true → (refusal b e is 0) ≡ true → f (step_of b e).answer.code ≡ true
  unfolding accepted
  accepted_code f a h = rw (step_accepted h) (listed_all f (accepted b e).answer.code low a (answered_code b (doing_of e) (value_of e) (request_of (taken b (doing_of e)))))

  pub refused_code : (refusal b e is 0) ≡ false → (step_of b e).answer.code ≡ refusal b e
  unfolding refused
  refused_code h = rw (step_refused h)

  pub refused_each : (f : ℕ → Bool) → each f (lines b e) ≡ true → (refusal b e is 0) ≡ false → f (step_of b e).answer.code ≡ true
  unfolding refusal
  refused_each f a h = rw (refused_code h) (verdict_each f (lines b e) a h)
