-- The shots of a recording: their values and times, merged or not, and the last record up to a time. Assumes nothing.
use Rattle.std.specs.Prelude.{if◌then◌else◌}
use mathlib.Core.Path.{◌≡◌, refl, sym, ap, ◌∙◌}
use mathlib.Core.Bool.{Bool, true, false, not}
use mathlib.Core.List.{List, [], ◌∷◌}
use Prim.Native.Nat.{ℕ, zero, suc, ◌+◌, ◌≤◌, ◌<◌}
use native.Mathlib.Omega.{arith}
use lib.Dec.{leb}
use lib.ListN.{length, get_or, take}
use borrow.Author.Tests.{eqb-true, eqb-false, leb-true, leb-false, le-leb}
use Rattle.bits.specs.Bits.{◌is◌}
use Rattle.bits.proofs.Logic.{by_cases}
use Rattle.port.specs.declared.Port.{Port}
use Rattle.chip.specs.declared.Chip.{Chip}
use Rattle.chain.specs.Chain.{flat}
use Rattle.board.specs.declared.Board.{Board}
use Rattle.board.specs.Step.{step_of}
use Rattle.records.specs.Records.{steps_of}
use Rattle.frames.specs.Stamps.{times_of, gap_of}
use Rattle.frames.specs.Values.{flag, readies, values_of}
use Rattle.recording.specs.Wave.{Shot, shot_of, shots_of, merged}
use Rattle.recording.proofs.Bounds.{nine}
use Rattle.viewer.specs.Recordings.{Each, Last, values_after}
use Rattle.viewer.proofs.Frames.{Levels, Rising, shot_times, last_by}

-- ---- nine values, each 0 or 1
flag_binary : (on : Bool) → flag on < 2
flag_binary true = omega arith
flag_binary false = omega arith

readies_binary : (n : ℕ) (ps : List Port) → Each (λ (v : ℕ). v < 2) (readies n ps)
readies_binary zero ps = tt
readies_binary (suc n) [] = (omega arith, readies_binary n [])
readies_binary (suc n) (p ∷ ps) = (flag_binary p.ready, readies_binary n ps)

values_binary : (size : ℕ) (chips : List Chip) (request : ℕ) → Each (λ (v : ℕ). v < 2) (values_of size chips request)
unfolding values_of
values_binary size chips request = (flag_binary (not (request is 0)), readies_binary 8 (flat (take size chips)))

pub shots_levels : (b : Board) (es : List (List ℕ)) (ts : List ℕ) → Each Levels (shots_of b es ts)
unfolding shots_of
shots_levels b [] ts = tt
shots_levels b (e ∷ es) [] = tt
shots_levels b (e ∷ es) (t ∷ ts) = (record { nine = nine _ _ _; binary = values_binary _ _ _ }, shots_levels (step_of b e).board es ts)

pub merged_each : (P : Shot → Type 0) (shots : List Shot) → Each P shots → Each P (merged shots)
unfolding merged
merged_each P [] h = tt
merged_each P (s ∷ []) h = h
merged_each P (s ∷ t ∷ ss) h =
    by_cases (s.time is t.time)
    (λ e. rw e (merged_each P (t ∷ ss) h.1))
    (λ e. rw e (h.0, merged_each P (t ∷ ss) h.1))

-- ---- times that never fall
abbrev pub Ascending : ℕ → List ℕ → Type 0
Ascending n [] = Unit {0}
Ascending n (time ∷ more) = (n ≤ time) × Ascending time more

ascending_least : (n : ℕ) (l : List ℕ) (i : ℕ) → Ascending n l → i < length l → n ≤ get_or l i 0
ascending_least n [] i a h = absurd (omega arith)
ascending_least n (t ∷ ts) zero a h = a.0
ascending_least n (t ∷ ts) (suc i) a h = omega (arith, a.0, ascending_least t ts i a.1 (omega arith))

pub times_ascend : (time : ℕ) (ss : List ℕ) → Ascending time (times_of time ss)
unfolding times_of
times_ascend time [] = tt
times_ascend time (s ∷ []) = (omega arith, tt)
times_ascend time (s ∷ t ∷ ss) = (omega arith, higher time (time + gap_of s t) (times_of (time + gap_of s t) (t ∷ ss)) (omega arith) (times_ascend (time + gap_of s t) (t ∷ ss)))
  where
    higher : (n m : ℕ) (l : List ℕ) → n ≤ m → Ascending m l → Ascending n l
    higher n m [] h a = tt
    higher n m (x ∷ l) h a = (omega (arith, a.0), a.1)

pub times_length : (time : ℕ) (ss : List ℕ) → length (times_of time ss) ≡ length ss
unfolding times_of
times_length time [] = refl
times_length time (s ∷ []) = refl
times_length time (s ∷ t ∷ ss) = ap suc (times_length (time + gap_of s t) (t ∷ ss))

shots_times : (b : Board) (es : List (List ℕ)) (ts : List ℕ) → length es ≡ length ts → shot_times (shots_of b es ts) ≡ ts
unfolding shots_of
shots_times b [] [] h = refl
shots_times b [] (t ∷ ts) h = absurd (omega (arith, h))
shots_times b (e ∷ es) [] h = absurd (omega (arith, h))
shots_times b (e ∷ es) (t ∷ ts) h = ap (λ (l : List ℕ). t ∷ l) (shots_times (step_of b e).board es ts (omega (arith, h)))

-- merged, they grow
merged_rise : (n : ℕ) (shots : List Shot) → Ascending n (shot_times shots) → Rising n (shot_times (merged shots))
unfolding merged
merged_rise n [] a = tt
merged_rise n (s ∷ []) a = (a.0, tt)
merged_rise n (s ∷ t ∷ ss) a =
    by_cases (s.time is t.time)
    (λ e. let same = eqb-true s.time t.time e in rw e (merged_rise n (t ∷ ss) (omega (arith, a.0), a.1.1)))
    (λ e.
    let other = eqb-false s.time t.time e in
    let above : s.time < t.time = omega (arith, a.1.0) in
    rw e (a.0, merged_rise (suc s.time) (t ∷ ss) (above, a.1.1)))

-- and the first time stays
merged_begin : (s : Shot) (ss : List Shot) → take 1 (shot_times (merged (s ∷ ss))) ≡ s.time ∷ []
unfolding merged
merged_begin s [] = refl
merged_begin s (t ∷ ss) =
    by_cases (s.time is t.time)
    (λ e. rw (e, eqb-true s.time t.time e) (merged_begin t ss))
    (λ e. rw e)

-- ---- the last shot up to a time is the same with shots merged
merged_last : (time : ℕ) (before : List ℕ) (shots : List Shot) → last_by time before (merged shots) ≡ last_by time before shots
unfolding merged
merged_last time before [] = refl
merged_last time before (s ∷ []) = refl
merged_last time before (s ∷ t ∷ ss) =
    by_cases (s.time is t.time)
    (λ e.
    by_cases (leb t.time time)
    (λ u. rw (e, eqb-true s.time t.time e) (merged_last time before (t ∷ ss) ∙ rw u))
    (λ u. rw (e, eqb-true s.time t.time e) (merged_last time before (t ∷ ss) ∙ rw u)))
    (λ e. rw e (ap (λ (l : List ℕ). if leb s.time time then l else before) (merged_last time s.values (t ∷ ss))))

-- and is that of the last record up to it
last_here : (t : ℕ) (ts : List ℕ) (time : ℕ) → t ≤ time → ((i : ℕ) → i < length ts → time < get_or ts i 0) → Last (t ∷ ts) time 0
last_here t ts time h after = record { there = omega arith; reached = h; later = later }
  where
    later : (j : ℕ) → 0 < j → j < length (t ∷ ts) → time < get_or (t ∷ ts) j 0
    later zero p q = absurd (omega arith)
    later (suc i) p q = after i (omega arith)

last_next : (t : ℕ) (ts : List ℕ) (time k : ℕ) → Last ts time k → Last (t ∷ ts) time (suc k)
last_next t ts time k l = record { there = omega (arith, l.there); reached = l.reached; later = later }
  where
    later : (j : ℕ) → suc k < j → j < length (t ∷ ts) → time < get_or (t ∷ ts) j 0
    later zero p q = absurd (omega arith)
    later (suc i) p q = l.later i (omega arith) (omega arith)

pub record LastRecord (b : Board) (es : List (List ℕ)) (ts : List ℕ) (time : ℕ) (values : List ℕ) : Type 0 where
  pub k : ℕ
  pub last : Last ts time k
  pub same : values ≡ values_after b es k

last_record : (b : Board) (e : List ℕ) (es : List (List ℕ)) (t : ℕ) (ts : List ℕ) (time : ℕ) (before : List ℕ) → length es ≡ length ts → t ≤ time → Ascending t ts
    → LastRecord b (e ∷ es) (t ∷ ts) time (last_by time before (shots_of b (e ∷ es) (t ∷ ts)))
unfolding shots_of steps_of
last_record b e [] t [] time before h reached a =
    record { k = 0; last = last_here t [] time reached (λ i small. absurd (omega arith)); same = rw (le-leb t time reached) }
last_record b e [] t (u ∷ us) time before h reached a = absurd (omega (arith, h))
last_record b e (x ∷ es) t [] time before h reached a = absurd (omega (arith, h))
last_record b e (x ∷ es) t (u ∷ us) time before h reached a =
    by_cases (leb u time)
    (λ y.
    let more = last_record (step_of b e).board x es u us time (shot_of t (step_of b e)).values (omega (arith, h)) (leb-true u time y) a.1 in
    record { k = suc more.k; last = last_next t (u ∷ us) time more.k more.last; same = rw (le-leb t time reached) more.same })
    (λ y.
    record {
      k = 0;
      last = last_here t (u ∷ us) time reached (λ i small. omega (arith, leb-false u time y, ascending_least u (u ∷ us) i (omega arith, a.1) small));
      same = rw (le-leb t time reached, y);
    })

-- ---- all this of a recording with a stamp for each record
pub shots_none : (b : Board) (es : List (List ℕ)) (ts : List ℕ) → length es ≡ 0 → merged (shots_of b es ts) ≡ []
unfolding shots_of merged
shots_none b [] ts h = refl
shots_none b (e ∷ es) ts h = absurd (omega (arith, h))

pub shots_begin : (b : Board) (es : List (List ℕ)) (time : ℕ) (ss : List ℕ) → length es ≡ length ss → 0 < length es
    → take 1 (shot_times (merged (shots_of b es (times_of time ss)))) ≡ time ∷ []
unfolding shots_of times_of
shots_begin b [] time ss h some = absurd (omega arith)
shots_begin b (e ∷ es) time [] h some = absurd (omega (arith, h))
shots_begin b (e ∷ es) time (s ∷ []) h some = merged_begin (shot_of time (step_of b e)) _
shots_begin b (e ∷ es) time (s ∷ t ∷ ss) h some = merged_begin (shot_of time (step_of b e)) _

pub shots_rise : (b : Board) (es : List (List ℕ)) (time : ℕ) (ss : List ℕ) → length es ≡ length ss → Rising time (shot_times (merged (shots_of b es (times_of time ss))))
shots_rise b es time ss h =
    merged_rise time (shots_of b es (times_of time ss)) (rw (shots_times b es (times_of time ss) (h ∙ sym (times_length time ss))) (times_ascend time ss))

pub shots_last : (b : Board) (es : List (List ℕ)) (time : ℕ) (ss : List ℕ) (now : ℕ) (before : List ℕ) → length es ≡ length ss → 0 < length es → time ≤ now
    → LastRecord b es (times_of time ss) now (last_by now before (merged (shots_of b es (times_of time ss))))
unfolding times_of
shots_last b [] time ss now before h some start = absurd (omega arith)
shots_last b (e ∷ es) time [] now before h some start = absurd (omega (arith, h))
shots_last b (e ∷ es) time (s ∷ []) now before h some start =
    rw (merged_last now before (shots_of b (e ∷ es) (time ∷ []))) (last_record b e es time [] now before (omega (arith, h)) start tt)
shots_last b (e ∷ es) time (s ∷ t ∷ ss) now before h some start =
    let times = times_of (time + gap_of s t) (t ∷ ss) in
    rw (merged_last now before (shots_of b (e ∷ es) (time ∷ times)))
    (last_record b e es time times now before (omega (arith, h, times_length (time + gap_of s t) (t ∷ ss))) start (times_ascend time (s ∷ t ∷ ss)).1)
