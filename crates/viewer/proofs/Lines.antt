-- The frames that are written are the frames that are read. Assumes nothing.
use mathlib.Core.Path.{◌≡◌, refl, ap, ◌∙◌}
use mathlib.Core.List.{List, [], ◌∷◌, ◌++◌, append_assoc, append-nil}
use Prim.Native.Nat.{ℕ, zero, suc, ◌+◌, ◌-◌, ◌*◌, ◌/◌, ◌%◌, ◌<◌}
use native.Mathlib.Omega.{arith}
use lib.Dec.{ltb}
use borrow.Author.Tests.{ne_eqb, ltb-false}
use Rattle.bits.proofs.Logic.{by_cases}
use Rattle.buffers.specs.Digits.{digits_up, digits_of}
use Rattle.frames.specs.Frames.{header, time_line, value_line}
use Rattle.viewer.specs.Reader.{Change, Frame, Seen, newline, time_mark, lines_in, number_from, read_lines, frames_in, written_changes, written}
use Rattle.viewer.specs.Recordings.{Each}

-- ---- a line has no newline in it
abbrev pub Plain : ℕ → Type 0
Plain byte = byte ≡ newline → ⊥

each_append : {A : Type 0} (P : A → Type 0) (xs ys : List A) → Each P xs → Each P ys → Each P (xs ++ ys)
each_append P [] ys p q = q
each_append P (x ∷ xs) ys p q = (p.0, each_append P xs ys p.1 q)

line_read : (line rest : List ℕ) → Each Plain line → lines_in (line ++ (newline ∷ rest)) ≡ line ∷ lines_in rest
line_read [] rest p = refl
line_read (byte ∷ line) rest p = rw (ne_eqb byte newline p.0, line_read line rest p.1)

-- ---- the digits of a number
digits_plain : (depth n : ℕ) → Each Plain (digits_up depth n)
unfolding digits_up
digits_plain zero n = tt
digits_plain (suc depth) n =
    by_cases (ltb n 10)
    (λ t. rw t ((λ e. omega arith), tt))
    (λ t. rw t (each_append Plain (digits_up depth (n / 10)) _ (digits_plain depth (n / 10)) ((λ e. omega arith), tt)))

number_append : (n : ℕ) (ds : List ℕ) (d : ℕ) → number_from n (ds ++ (d ∷ [])) ≡ 10 * number_from n ds + (d - 48)
number_append n [] d = refl
number_append n (x ∷ ds) d = number_append (10 * n + (x - 48)) ds d

number_read : (depth n : ℕ) → n < depth → number_from 0 (digits_up depth n) ≡ n
unfolding digits_up
number_read zero n h = absurd (omega arith)
number_read (suc depth) n h =
    by_cases (ltb n 10)
    (λ t. rw t (omega arith))
    (λ t.
    let many = ltb-false n 10 t in
    rw (t, number_append 0 (digits_up depth (n / 10)) (48 + n % 10), number_read depth (n / 10) (omega arith)) (omega arith))

-- ---- the lines of a frame
-- a value line shows 0 or 1, and its character is none that ends a line
pub record Writable (c : Change) : Type 0 where
  pub level : c.value < 2
  pub plain : Plain c.character

change_read : (c : Change) (rest : List ℕ) → Writable c
    → read_lines (lines_in (value_line c.character c.value ++ rest)) ≡ record { early = c ∷ (read_lines (lines_in rest)).early; frames = (read_lines (lines_in rest)).frames }
unfolding value_line
change_read c rest w = level c.character c.value w.level w.plain
  where
    level : (character value : ℕ) → value < 2 → Plain character
        → read_lines (lines_in (value_line character value ++ rest)) ≡ record { early = record { character = character; value = value } ∷ (read_lines (lines_in rest)).early; frames = (read_lines (lines_in rest)).frames }
    level character zero h p = rw (ne_eqb character newline p)
    level character (suc zero) h p = rw (ne_eqb character newline p)
    level character (suc (suc n)) h p = absurd (omega arith)

changes_read : (cs : List Change) (rest : List ℕ) → Each Writable cs
    → read_lines (lines_in (written_changes cs ++ rest)) ≡ record { early = cs ++ (read_lines (lines_in rest)).early; frames = (read_lines (lines_in rest)).frames }
changes_read [] rest w = refl
changes_read (c ∷ cs) rest w = rw (append_assoc, change_read c (written_changes cs ++ rest) w.0, changes_read cs rest w.1)

time_line_lem : (time : ℕ) (rest : List ℕ) → lines_in (time_line time ++ rest) ≡ (time_mark ∷ digits_up (suc time) time) ∷ lines_in rest
unfolding time_line digits_of
time_line_lem time rest =
    ap (λ (l : List ℕ). lines_in (time_mark ∷ l)) (append_assoc (digits_up (suc time) time) (newline ∷ []) rest)
    ∙ line_read (time_mark ∷ digits_up (suc time) time) rest ((λ e. omega arith), digits_plain (suc time) time)

time_read : (time : ℕ) (rest : List ℕ)
    → read_lines (lines_in (time_line time ++ rest)) ≡ record { early = []; frames = record { time = time; changes = (read_lines (lines_in rest)).early } ∷ (read_lines (lines_in rest)).frames }
time_read time rest = rw (time_line_lem time rest, number_read (suc time) time (omega arith))

frames_read : (fs : List Frame) → Each (λ (f : Frame). Each Writable f.changes) fs → read_lines (lines_in (written fs)) ≡ record { early = []; frames = fs }
frames_read [] w = refl
frames_read (f ∷ fs) w =
    rw (append_assoc, time_read f.time (written_changes f.changes ++ written fs), changes_read f.changes (written fs) w.0, frames_read fs w.1, append-nil)

header_read : (rest : List ℕ) → read_lines (lines_in (header ++ rest)) ≡ read_lines (lines_in rest)
unfolding header
header_read rest = refl

pub text_read : (fs : List Frame) → Each (λ (f : Frame). Each Writable f.changes) fs → frames_in (header ++ written fs) ≡ fs
unfolding frames_in
text_read fs w = ap (λ (s : Seen). s.frames) (header_read (written fs) ∙ frames_read fs w)
