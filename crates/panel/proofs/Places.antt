-- The laws of the lines of a board's places, written chip by chip. Assumes nothing.
use Rattle.std.proofs.Common.{◌≡◌, ℕ, ◌+◌, ◌*◌, ◌<◌, ◌≤◌, List, ◌∷◌, ◌++◌, length, get_or, take, drop, min, sym, ap, ◌∙◌, arith, append_assoc, drop-cons, drop_of_length-le, add-one}
use Rattle.std.proofs.lemmas.List.{take_min}
use Rattle.buffers.specs.Splice.{if_room, Wrote}
use Rattle.buffers.proofs.Splices.{wrote_all, wrote_then, wrote_length, Writing, writing_all, writing_part, writing_done}
use Rattle.chip.specs.declared.Chip.{Chip}
use Rattle.chain.specs.Chain.{most, flat}
use Rattle.board.specs.declared.Board.{Board}
use Rattle.board.specs.Halves.{blank}
use Rattle.panel.specs.Text.{place_line, places_of}

-- the lines from chip i on are those of its two ports, and those of the chips behind it
places_from : (b : Board) (cs : List Chip) (i : ℕ) → i < length cs
    → places_of b (2 * i) (flat (drop i cs))
    ≡ place_line b (2 * i) (get_or cs i blank).a ++ place_line b (2 * i + 1) (get_or cs i blank).b ++ places_of b (2 * (i + 1)) (flat (drop (i + 1) cs))
unfolding places_of
places_from b cs i h =
    let e : 2 * (i + 1) ≡ 2 * i + 1 + 1 = omega arith in
    let split : drop i cs ≡ get_or cs i blank ∷ drop (i + 1) cs = rw add-one (drop-cons cs i blank h) in
    rw (split, e) (simp append_assoc)

-- the chips that are there
pub there : (n : ℕ) (cs : List Chip) → length cs ≡ most → take (min n most) cs ≡ take n cs
there n cs e = ap (λ (m : ℕ). take (min n m) cs) (sym e) ∙ take_min n cs

module _ (b : Board) (cs : List Chip) (old : List ℕ) (at : ℕ) where
  -- where the writer of the lines stands before chip i
  pub record Before (out : List ℕ) (next i : ℕ) : Type 0 where
    pub within : i ≤ length cs
    pub room : next ≤ at + 840 * i
    pub rest : Writing old at (places_of b 0 (flat cs)) out next (places_of b (2 * i) (flat (drop i cs)))

  -- before the first chip
  pub begin : Before old at 0
  begin = record { within = omega arith; room = omega arith; rest = writing_all old at (places_of b 0 (flat cs)) }

  -- the lines of chip i are written
  pub turn : {out m m' : List ℕ} {next n n' i : ℕ} → at + 3360 ≤ length old → length cs ≤ most → i < length cs → Before out next i
      → Wrote out next (if_room out next 420 (place_line b (2 * i) (get_or cs i blank).a)) m n → n ≤ next + 420
      → Wrote m n (if_room m n 420 (place_line b (2 * i + 1) (get_or cs i blank).b)) m' n' → n' ≤ n + 420
      → Before m' n' (i + 1)
  turn {out} {m} {m'} {next} {n} {n'} {i} fits few h w first short second shorter =
      let a = wrote_all 420 (omega (arith, w.room, w.rest.long)) first in
      let long = wrote_length a (omega (arith, w.room, w.rest.long)) in
      let both = wrote_then (omega (arith, w.room, w.rest.long)) a (wrote_all 420 (omega (arith, w.room, w.rest.long)) second) in
      record {
        within = omega arith;
        room = omega (arith, w.room);
        rest = writing_part w.rest (places_from b cs i h) both (omega (arith, w.room));
      }

  -- no chip is left
  pub done : {out : List ℕ} {next i : ℕ} → length cs ≤ most → Before out next i → length cs ≤ i
      → Wrote old at (places_of b 0 (flat cs)) out next × (next ≤ at + 3360)
  unfolding places_of
  done {out} {next} {i} few w h = (writing_done w.rest (rw (drop_of_length-le cs h)), omega (arith, w.room, w.within))
