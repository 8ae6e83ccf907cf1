-- The laws of a refusal's line. Assumes nothing.
use mathlib.Core.Path.{◌≡◌, refl}
use mathlib.Core.List.{List}
use Prim.Native.Nat.{ℕ, ◌≤◌}
use native.Mathlib.Omega.{arith}
use lib.ListN.{length}
use Rattle.refusals.specs.declared.Refusal.{Refusal}
use Rattle.refusals.specs.declared.Refusal.TheVariants.{Kind, Place, Value, NoForm, NotOnB, Length, Size, Room, Unsound, Records, Text, Stamps}
use Rattle.refusals.specs.Numbers.{number_of}
use Rattle.buffers.specs.Splice.{if_room, Wrote}
use Rattle.buffers.specs.Digits.{digits_of, digits_up}
use Rattle.buffers.specs.Rows.{row_of}
use Rattle.buffers.proofs.Splices.{wrote_all}
use Rattle.text.specs.Panel.{refused_of}
use Rattle.wave.specs.Text.{words_of, refusal_line}

-- a refusal with words
pub said : {old m text : List ℕ} {n : ℕ} {r : Refusal} (s : Refusal) → r ≡ s → text ≡ refusal_line (number_of s) → length old ≡ 64 → length text ≤ 64
    → Wrote old 0 (if_room old 0 (length text) text) m n → Wrote old 0 (refusal_line (number_of r)) m n × (n ≤ 64)
said {old} {m} {text} {n} {r} s is line room short w =
    let all = wrote_all (length text) (omega arith) w in (rw (is, ← line) all, omega (arith, all.ends))

-- a refusal with no words
pub unsaid : (r : Refusal) → (r ≡ Size → ⊥) → (r ≡ Unsound → ⊥) → (r ≡ Length → ⊥) → (r ≡ Records → ⊥) → (r ≡ Stamps → ⊥) → (r ≡ Text → ⊥)
    → refused_of (number_of r) ≡ refusal_line (number_of r)
unfolding refusal_line words_of row_of digits_of digits_up
unsaid Kind a b c d e f = refl
unsaid Place a b c d e f = refl
unsaid Value a b c d e f = refl
unsaid NoForm a b c d e f = refl
unsaid NotOnB a b c d e f = refl
unsaid Length a b c d e f = absurd (c refl)
unsaid Size a b c d e f = absurd (a refl)
unsaid Room a b c d e f = refl
unsaid Unsound a b c d e f = absurd (b refl)
unsaid Records a b c d e f = absurd (d refl)
unsaid Text a b c d e f = absurd (f refl)
unsaid Stamps a b c d e f = absurd (e refl)
