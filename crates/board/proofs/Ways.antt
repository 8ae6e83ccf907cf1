-- A flag's test turned over, and what a look at a board tells of it, for the crates above.
-- Assumes nothing.
use Rattle.std.specs.Prelude.{Result, Ok, Err, if◌then◌else◌}
use mathlib.Core.Path.{◌≡◌, refl, sym, ap, ◌∙◌}
use mathlib.Core.Bool.{Bool, true, false, not, true≢false}
use Rattle.std.specs.Result.{is_ok}
use Rattle.refusals.specs.declared.Refusal.{Refusal}
use Rattle.refusals.specs.declared.Refusal.TheVariants.{Unsound}
use Rattle.board.specs.declared.Board.{Board}
use Rattle.board.specs.declared.Look.{Look}
use Rattle.board.specs.Board.{sound_board}
use Rattle.board.specs.Halves.{look_of, seen_of}

-- a flag's test turned over
pub off : (b : Bool) → not b ≡ true → b ≡ false
off true e = sym e
off false e = refl

pub on : (b : Bool) → not b ≡ false → b ≡ true
on true e = refl
on false e = sym e

-- ---- a look at a board
pub record Sound (b : Board) (l : Look) : Type 0 where
  pub sound : sound_board b ≡ true
  pub look : l ≡ look_of b.size b.chips

-- a look tells whether a board is sound
pub sound_is : (b : Board) → is_ok (seen_of b) ≡ sound_board b
unfolding seen_of
sound_is b = told (sound_board b) (look_of b.size b.chips)
  where
    told : (t : Bool) (m : Look) → is_ok (if t then Ok m else Err Unsound) ≡ t
    told true m = refl
    told false m = refl

abbrev pub value_or : {A E : Type 0} → A → Result A E → A
value_or d (Ok x) = x
value_or d (Err r) = d

abbrev pub error_or : {A E : Type 0} → E → Result A E → E
error_or d (Ok x) = d
error_or d (Err r) = r

ok_look : (t : Bool) (l m : Look) → Ok l ≡ (if t then Ok m else Err Unsound) → l ≡ m
ok_look true l m e = ap (value_or m) e
ok_look false l m e = absurd (true≢false (ap is_ok e))

pub seen_ok : (b : Board) (l : Look) → Ok l ≡ seen_of b → Sound b l
unfolding seen_of
seen_ok b l e = record { sound = sym (sound_is b) ∙ sym (ap is_ok e); look = ok_look (sound_board b) l (look_of b.size b.chips) e }

err_look : (t : Bool) (r : Refusal) (m : Look) → Err r ≡ (if t then Ok m else Err Unsound) → r ≡ Unsound
err_look false r m e = ap (error_or r) e
err_look true r m e = absurd (true≢false (sym (ap is_ok e)))

pub seen_err : (b : Board) (r : Refusal) → Err r ≡ seen_of b → (sound_board b ≡ false) × (r ≡ Unsound)
unfolding seen_of
seen_err b r e = (sym (sound_is b) ∙ sym (ap is_ok e), err_look (sound_board b) r (look_of b.size b.chips) e)
