-- What every event keeps of a chip, it keeps of each chip of a board.
-- Assumes nothing.
use Rattle.std.specs.Prelude.{if◌then◌else◌}
use mathlib.Core.Bool.{Bool, true, false}
use mathlib.Core.List.{List, [], ◌∷◌, ◌++◌, map}
use Prim.Native.Nat.{ℕ, zero, suc, ◌/◌}
use lib.ListN.{length, take, drop}
use Rattle.bits.specs.Bits.{◌is◌}
use Rattle.bits.proofs.Logic.{by_cases}
use Rattle.port.specs.Rules.{served, released}
use Rattle.chip.specs.declared.Chip.{Chip}
use Rattle.chip.specs.Chip.{Side, A, B, on, settle, serve, release}
use Rattle.chip.specs.Chip as chip
use Rattle.events.specs.Events.{changed}
use Rattle.chain.specs.declared.Decoder.{Decoder}
use Rattle.chain.specs.Places.{adjust}
use Rattle.chain.specs.Chain.{flat, asker, holder, side_of, acknowledged, retired}
use Rattle.chain.specs.Decode.{reti_of}
use Rattle.board.specs.declared.Board.{Board}
use Rattle.board.specs.Board.{there}
use Rattle.board.specs.declared.Doing.{Doing}
use Rattle.board.specs.declared.Doing.TheVariants.{Reset, Fetch, Acknowledge, At}
use Rattle.board.specs.Step.{doing_of, change, after, taken, refusal, accepted, refused, step_of}
use Rattle.board.proofs.There.{there_taken}
use Rattle.meaning.specs.Words.{Each}

-- what settling and the events of the whole board keep
pub record Lasting (X : Chip → Type 0) : Type 0 where
  pub settling : (c : Chip) → X c → X (settle c)
  pub reset : (c : Chip) → X c → X (chip.reset c)
  pub fetch : (c : Chip) → X c → X (chip.fetch c)
  pub service_of_a : (c : Chip) → X c → X (serve A c)
  pub service_of_b : (c : Chip) → X c → X (serve B c)
  pub release_of_a : (c : Chip) → X c → X (release A c)
  pub release_of_b : (c : Chip) → X c → X (release B c)

-- and an event at a place
abbrev pub KeptAt : (Chip → Type 0) → Doing → Type 0
KeptAt X Reset = Unit {0}
KeptAt X (Fetch byte) = Unit {0}
KeptAt X Acknowledge = Unit {0}
KeptAt X (At place e) = (s : Side) (c : Chip) → X c → X (changed s e c)

module _ (X : Chip → Type 0) where
  each_map : (f : Chip → Chip) → ((c : Chip) → X c → X (f c)) → (cs : List Chip) → Each X cs → Each X (map f cs)
  each_map f k [] h = tt
  each_map f k (c ∷ cs) h = (k c h.0, each_map f k cs h.1)

  each_adjust : (f : Chip → Chip) → ((c : Chip) → X c → X (f c)) → (i : ℕ) (cs : List Chip) → Each X cs → Each X (adjust f i cs)
  each_adjust f k i [] h = tt
  each_adjust f k zero (c ∷ cs) h = (k c h.0, h.1)
  each_adjust f k (suc i) (c ∷ cs) h = (h.0, each_adjust f k i cs h.1)

  each_choice : (t : Bool) (x y : List Chip) → Each X x → Each X y → Each X (if t then x else y)
  each_choice true x y h k = h
  each_choice false x y h k = k

  each_take : (n : ℕ) (cs : List Chip) → Each X cs → Each X (take n cs)
  each_take zero cs h = tt
  each_take (suc n) [] h = tt
  each_take (suc n) (c ∷ cs) h = (h.0, each_take n cs h.1)

  each_drop : (n : ℕ) (cs : List Chip) → Each X cs → Each X (drop n cs)
  each_drop zero cs h = h
  each_drop (suc n) [] h = tt
  each_drop (suc n) (c ∷ cs) h = each_drop n cs h.1

  each_append : (x y : List Chip) → Each X x → Each X y → Each X (x ++ y)
  each_append [] y h k = k
  each_append (c ∷ x) y h k = (h.0, each_append x y h.1 k)

  module _ (l : Lasting X) where
    served_keeps : (s : Side) (c : Chip) → X c → X (serve s c)
    served_keeps A c h = l.service_of_a c h
    served_keeps B c h = l.service_of_b c h

    released_keeps : (s : Side) (c : Chip) → X c → X (release s c)
    released_keeps A c h = l.release_of_a c h
    released_keeps B c h = l.release_of_b c h

    change_keeps : (d : Decoder) (e : Doing) → KeptAt X e → (cs : List Chip) → Each X cs → Each X (change d e cs)
    unfolding acknowledged retired
    change_keeps d Reset k cs h = each_map chip.reset l.reset cs h
    change_keeps d (Fetch byte) k cs h =
        each_map chip.fetch l.fetch (if reti_of d byte then retired cs else cs)
        (each_choice (reti_of d byte) (retired cs) cs
        (each_adjust (on (side_of (holder (flat cs))) released) (released_keeps (side_of (holder (flat cs)))) (holder (flat cs) / 2) cs h) h)
    change_keeps d Acknowledge k cs h = each_adjust (on (side_of (asker (flat cs))) served) (served_keeps (side_of (asker (flat cs)))) (asker (flat cs) / 2) cs h
    change_keeps d (At place e) k cs h = each_adjust (changed (side_of place) e) (k (side_of place)) (place / 2) cs h

    after_keeps : (d : Decoder) (e : Doing) → KeptAt X e → (cs : List Chip) → Each X cs → Each X (after d e cs)
    after_keeps d e k cs h = each_map settle l.settling (change d e cs) (change_keeps d e k cs h)

    -- the chips that are there, and all chips of the board
    pub there_keeps : (b : Board) (e : List ℕ) → KeptAt X (doing_of e) → Each X (there b) → Each X (there (step_of b e).board)
    unfolding step_of accepted refused
    there_keeps b e k h =
        by_cases (length e is 4) (λ f. rw f
        (by_cases (refusal b e is 0) (λ g. rw (g, there_taken b (doing_of e)) (after_keeps b.decoder (doing_of e) k (there b) h)) (λ g. rw g h))) (λ f. rw f h)

    pub all_keeps : (b : Board) (e : List ℕ) → KeptAt X (doing_of e) → Each X b.chips → Each X (step_of b e).board.chips
    unfolding step_of accepted refused taken
    all_keeps b e k h =
        by_cases (length e is 4) (λ f. rw f
        (by_cases (refusal b e is 0)
        (λ g. rw g
        (each_append (after b.decoder (doing_of e) (there b)) (drop b.size b.chips)
        (after_keeps b.decoder (doing_of e) k (there b) (each_take b.size b.chips h)) (each_drop b.size b.chips h)))
        (λ g. rw g h))) (λ f. rw f h)
