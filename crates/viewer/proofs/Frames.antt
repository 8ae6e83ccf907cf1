-- The frames of a row of shots: what is written for them, and what a viewer shows of them. Assumes nothing.
use Rattle.std.specs.Prelude.{if◌then◌else◌}
use mathlib.Core.Path.{◌≡◌, refl, sym, ap, ◌∙◌}
use mathlib.Core.List.{List, [], ◌∷◌, ◌++◌, map}
use Prim.Native.Nat.{ℕ, zero, suc, ◌+◌, ◌≤◌, ◌<◌}
use native.Mathlib.Nat.{add-zero}
use native.Mathlib.Omega.{arith}
use lib.Dec.{leb}
use lib.ListN.{length, get_or, take}
use borrow.Author.Tests.{eqb-true, eqb-false, eq-eqb, ne_eqb, leb-false, le-leb, lt-leb}
use Rattle.bits.specs.Bits.{◌is◌}
use Rattle.bits.proofs.Logic.{by_cases}
use Rattle.frames.specs.Frames.{identifier, time_line, value_line, changed_lines, later_frame}
use Rattle.recording.specs.Wave.{Shot, later_frames}
use Rattle.recording.proofs.Shots.{unseen}
use Rattle.viewer.specs.Reader.{Change, Frame, written_changes, written, changed_by, shown_from, shown_before}
use Rattle.viewer.specs.Recordings.{Each, Changed, Ordered, Filled, times}
use Rattle.viewer.proofs.Lines.{Writable}

-- ---- the changes of a time, and the frames of a row of shots
abbrev pub changes_of : ℕ → List ℕ → List ℕ → List Change
changes_of character (s ∷ ss) (v ∷ vs) = (if v is s then [] else record { character = character; value = v } ∷ []) ++ changes_of (suc character) ss vs
changes_of character [] vs = []
changes_of character (s ∷ ss) [] = []

abbrev pub framed : ℕ → List Change → List Frame → List Frame
framed time [] fs = fs
framed time (c ∷ cs) fs = record { time = time; changes = c ∷ cs } ∷ fs

abbrev pub frames_of : List ℕ → List Shot → List Frame
frames_of shown [] = []
frames_of shown (s ∷ ss) = framed s.time (changes_of identifier shown s.values) (frames_of s.values ss)

-- ---- they are what the text has
changes_written : (character : ℕ) (shown values : List ℕ) → changed_lines character shown values ≡ written_changes (changes_of character shown values)
unfolding changed_lines
changes_written character [] values = refl
changes_written character (s ∷ ss) [] = refl
changes_written character (s ∷ ss) (v ∷ vs) =
    by_cases (v is s)
    (λ e. rw (e, changes_written (suc character) ss vs))
    (λ e. rw (e, changes_written (suc character) ss vs))

framed_written : (time : ℕ) (cs : List Change) (fs : List Frame)
    → (if length (written_changes cs) is 0 then [] else time_line time ++ written_changes cs) ++ written fs ≡ written (framed time cs fs)
unfolding value_line
framed_written time [] fs = refl
framed_written time (c ∷ cs) fs = rw (ne_eqb (length (written_changes (c ∷ cs))) 0 (omega arith))

pub frames_written : (shown : List ℕ) (shots : List Shot) → later_frames shown shots ≡ written (frames_of shown shots)
unfolding later_frames later_frame
frames_written shown [] = refl
frames_written shown (s ∷ ss) =
    rw (changes_written identifier shown s.values, frames_written s.values ss)
    (framed_written s.time (changes_of identifier shown s.values) (frames_of s.values ss))

-- ---- shots of nine values, each 0 or 1
pub record Levels (s : Shot) : Type 0 where
  pub nine : length s.values ≡ 9
  pub binary : Each (λ (v : ℕ). v < 2) s.values

changes_writable : (character : ℕ) (shown values : List ℕ) → 10 < character → Each (λ (v : ℕ). v < 2) values → Each Writable (changes_of character shown values)
changes_writable character [] values h v = tt
changes_writable character (s ∷ ss) [] h v = tt
changes_writable character (s ∷ ss) (v ∷ vs) h l =
    let more = changes_writable (suc character) ss vs (omega arith) l.1 in
    by_cases (v is s)
    (λ e. rw e more)
    (λ e. rw e (record { level = l.0; plain = λ z. omega arith }, more))

-- what holds of the changes of each shot holds of the frames
framed_each : (P : Frame → Type 0) (time : ℕ) (cs : List Change) (fs : List Frame)
    → (0 < length cs → P (record { time = time; changes = cs })) → Each P fs → Each P (framed time cs fs)
framed_each P time [] fs h q = q
framed_each P time (c ∷ cs) fs h q = (h (omega arith), q)

pub frames_writable : (shown : List ℕ) (shots : List Shot) → Each Levels shots → Each (λ (f : Frame). Each Writable f.changes) (frames_of shown shots)
frames_writable shown [] l = tt
frames_writable shown (s ∷ ss) l =
    framed_each _ s.time (changes_of identifier shown s.values) _
    (λ h. changes_writable identifier shown s.values (omega arith) l.0.binary)
    (frames_writable s.values ss l.1)

pub frames_filled : (shown : List ℕ) (shots : List Shot) → Each Filled (frames_of shown shots)
frames_filled shown [] = tt
frames_filled shown (s ∷ ss) = framed_each _ s.time (changes_of identifier shown s.values) _ (λ h. h) (frames_filled s.values ss)

-- ---- times that grow: none is below n, and each is above the one before
abbrev pub Rising : ℕ → List ℕ → Type 0
Rising n [] = Unit {0}
Rising n (time ∷ more) = (n ≤ time) × Rising (suc time) more

rising_lower : (n m : ℕ) (l : List ℕ) → n ≤ m → Rising m l → Rising n l
rising_lower n m [] h r = tt
rising_lower n m (time ∷ more) h r = (omega (arith, r.0), r.1)

abbrev pub shot_times : List Shot → List ℕ
shot_times shots = map (λ (s : Shot). s.time) shots

framed_rise : (n time : ℕ) (cs : List Change) (fs : List Frame) → n ≤ time → Rising (suc time) (times fs) → Rising n (times (framed time cs fs))
framed_rise n time [] fs h r = rising_lower n (suc time) (times fs) (omega arith) r
framed_rise n time (c ∷ cs) fs h r = (h, r)

pub frames_rise : (n : ℕ) (shown : List ℕ) (shots : List Shot) → Rising n (shot_times shots) → Rising n (times (frames_of shown shots))
frames_rise n shown [] r = tt
frames_rise n shown (s ∷ ss) r = framed_rise n s.time (changes_of identifier shown s.values) _ r.0 (frames_rise (suc s.time) s.values ss r.1)

pub rising_grows : (n : ℕ) (l : List ℕ) → Rising n l → (i : ℕ) → suc i < length l → get_or l i 0 < get_or l (suc i) 0
rising_grows n [] r i h = absurd (omega arith)
rising_grows n (a ∷ []) r i h = absurd (omega arith)
rising_grows n (a ∷ b ∷ l) r zero h = omega (arith, r.1.0)
rising_grows n (a ∷ b ∷ l) r (suc i) h = rising_grows (suc a) (b ∷ l) r.1 i (omega arith)

-- ---- the first shot has a line for each value
pub frames_begin : (shots : List Shot) (time : ℕ) → Each Levels shots → take 1 (shot_times shots) ≡ time ∷ [] → take 1 (times (frames_of unseen shots)) ≡ time ∷ []
frames_begin [] time l e = e
frames_begin (s ∷ ss) time l e = begins s.values l.0.nine l.0.binary
  where
    begins : (values : List ℕ) → length values ≡ 9 → Each (λ (v : ℕ). v < 2) values → take 1 (times (framed s.time (changes_of identifier unseen values) (frames_of s.values ss))) ≡ time ∷ []
    begins [] n b = absurd (omega (arith, n))
    begins (v ∷ vs) n b = rw (ne_eqb v 2 (λ z. omega (arith, b.0))) e

-- ---- what is shown
-- a later frame shows nothing yet
pub shown_held : (n value : ℕ) (fs : List Frame) (time character : ℕ) → time < n → Rising n (times fs) → shown_from value fs time character ≡ value
shown_held n value [] time character h r = refl
shown_held n value (f ∷ fs) time character h r =
    rw (lt-leb f.time time (omega (arith, r.0))) (shown_held (suc f.time) value fs time character (omega (arith, r.0)) r.1)

framed_shown : (value time : ℕ) (cs : List Change) (fs : List Frame) (now character : ℕ)
    → shown_from value (framed time cs fs) now character ≡ shown_from (if leb time now then changed_by cs character value else value) fs now character
framed_shown value time [] fs now character = by_cases (leb time now) (λ t. rw t) (λ t. rw t)
framed_shown value time (c ∷ cs) fs now character = refl

-- the changes of a time bring each line to its new value
change_others : (from : ℕ) (shown values : List ℕ) (character value : ℕ) → character < from → changed_by (changes_of from shown values) character value ≡ value
change_others from [] values character value h = refl
change_others from (s ∷ ss) [] character value h = refl
change_others from (s ∷ ss) (v ∷ vs) character value h =
    let more = change_others (suc from) ss vs character value (omega arith) in
    by_cases (v is s)
    (λ e. rw e more)
    (λ e. rw (e, ne_eqb from character (λ z. omega arith)) more)

change_shows : (from : ℕ) (shown values : List ℕ) (line : ℕ) → length shown ≡ length values → line < length values
    → changed_by (changes_of from shown values) (from + line) (get_or shown line 0) ≡ get_or values line 0
change_shows from [] [] line same h = absurd (omega arith)
change_shows from [] (v ∷ vs) line same h = absurd (omega (arith, same))
change_shows from (s ∷ ss) [] line same h = absurd (omega arith)
change_shows from (s ∷ ss) (v ∷ vs) zero same h =
    let more = change_others (suc from) ss vs from in
    rw add-zero
    (by_cases (v is s)
    (λ e. rw (e, eqb-true v s e) (more s (omega arith)))
    (λ e. rw (e, eq-eqb from from refl) (more v (omega arith))))
change_shows from (s ∷ ss) (v ∷ vs) (suc line) same h =
    let next : from + suc line ≡ suc from + line = omega arith in
    let more = change_shows (suc from) ss vs line (omega (arith, same)) (omega arith) in
    rw next
    (by_cases (v is s)
    (λ e. rw e more)
    (λ e. rw (e, ne_eqb from (suc from + line) (λ z. omega arith)) more))

-- the values of the last shot up to a time
abbrev pub last_by : ℕ → List ℕ → List Shot → List ℕ
last_by time before [] = before
last_by time before (s ∷ ss) = if leb s.time time then last_by time s.values ss else before

pub frames_show : (n : ℕ) (shown : List ℕ) (shots : List Shot) (time line : ℕ) → length shown ≡ 9 → Each Levels shots → Rising n (shot_times shots) → line < 9
    → shown_from (get_or shown line 0) (frames_of shown shots) time (identifier + line) ≡ get_or (last_by time shown shots) line 0
frames_show n shown [] time line h l r small = refl
frames_show n shown (s ∷ ss) time line h l r small =
    let cs = changes_of identifier shown s.values in
    framed_shown (get_or shown line 0) s.time cs (frames_of s.values ss) time (identifier + line)
    ∙ by_cases (leb s.time time)
    (λ t.
    rw (t, change_shows identifier shown s.values line (h ∙ sym l.0.nine) (omega (arith, l.0.nine)))
    (frames_show (suc s.time) s.values ss time line l.0.nine l.1 r.1 small))
    (λ t.
    let before = leb-false s.time time t in
    rw t (shown_held (suc s.time) _ (frames_of s.values ss) time (identifier + line) (omega arith) (frames_rise (suc s.time) s.values ss r.1)))

-- ---- every line that is shown has changed
changes_differ : (view : ℕ → ℕ) (from : ℕ) (shown values : List ℕ) → ((line : ℕ) → line < length shown → view (from + line) ≡ get_or shown line 0)
    → Each (λ (c : Change). view c.character ≡ c.value → ⊥) (changes_of from shown values)
changes_differ view from [] values h = tt
changes_differ view from (s ∷ ss) [] h = tt
changes_differ view from (s ∷ ss) (v ∷ vs) h =
    let next : (line : ℕ) → suc from + line ≡ from + suc line = λ line. omega arith in
    let more = changes_differ view (suc from) ss vs (λ line small. ap view (next line) ∙ h (suc line) (omega arith)) in
    by_cases (v is s)
    (λ e. rw e more)
    (λ e. rw e ((λ z. eqb-false v s e (sym z ∙ sym (ap view (add-zero from)) ∙ h 0 (omega arith))), more))

-- the values before a time
abbrev pub before_by : ℕ → List ℕ → List Shot → List ℕ
before_by zero before shots = before
before_by (suc time) before shots = last_by time before shots

before_first : (time : ℕ) (before : List ℕ) (s : Shot) (ss : List Shot) → time ≤ s.time → before_by time before (s ∷ ss) ≡ before
before_first zero before s ss h = refl
before_first (suc time) before s ss h = rw (lt-leb s.time time h)

before_next : (time : ℕ) (before : List ℕ) (s : Shot) (ss : List Shot) → s.time < time → before_by time before (s ∷ ss) ≡ before_by time s.values ss
before_next zero before s ss h = absurd (omega arith)
before_next (suc time) before s ss h = rw (le-leb s.time time (omega arith))

-- `frames` shows, before n and before each later time, what `shown` and the shots say
pub frames_changed : (frames : List Frame) (n : ℕ) (shown : List ℕ) (shots : List Shot) → length shown ≡ 9 → Each Levels shots → Rising n (shot_times shots)
    → ((time wire : ℕ) → n ≤ time → wire < 9 → shown_before frames time (identifier + wire) ≡ get_or (before_by time shown shots) wire 0)
    → Each (Changed frames) (frames_of shown shots)
frames_changed frames n shown [] h l r view = tt
frames_changed frames n shown (s ∷ ss) h l r view =
    framed_each (Changed frames) s.time (changes_of identifier shown s.values) (frames_of s.values ss)
    (λ some.
    changes_differ (shown_before frames s.time) identifier shown s.values
    (λ wire small.
    view s.time wire r.0 (omega (arith, h)) ∙ ap (λ (values : List ℕ). get_or values wire 0) (before_first s.time shown s ss (omega arith))))
    (frames_changed frames (suc s.time) s.values ss l.0.nine l.1 r.1
    (λ time wire after small. view time wire (omega (arith, r.0)) small ∙ ap (λ (values : List ℕ). get_or values wire 0) (before_next time shown s ss after)))

-- ---- in the order of their characters
ordered_lower : (n m : ℕ) (cs : List Change) → n ≤ m → Ordered m cs → Ordered n cs
ordered_lower n m [] h o = tt
ordered_lower n m (c ∷ cs) h o = (omega (arith, o.0), o.1)

changes_ordered : (from : ℕ) (shown values : List ℕ) → from + length values ≤ 42 → Ordered from (changes_of from shown values)
changes_ordered from [] values h = tt
changes_ordered from (s ∷ ss) [] h = tt
changes_ordered from (s ∷ ss) (v ∷ vs) h =
    let more = changes_ordered (suc from) ss vs (omega arith) in
    by_cases (v is s)
    (λ e. rw e (ordered_lower from (suc from) (changes_of (suc from) ss vs) (omega arith) more))
    (λ e. rw e (omega arith, (omega arith, more)))

pub frames_ordered : (shown : List ℕ) (shots : List Shot) → Each Levels shots → Each (λ (f : Frame). Ordered identifier f.changes) (frames_of shown shots)
frames_ordered shown [] l = tt
frames_ordered shown (s ∷ ss) l =
    framed_each _ s.time (changes_of identifier shown s.values) _
    (λ some. changes_ordered identifier shown s.values (omega (arith, l.0.nine)))
    (frames_ordered s.values ss l.1)
