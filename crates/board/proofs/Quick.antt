-- "After every accepted event" of document 01 is of all places. On a sound board it comes to the same where only the chip that the
-- event concerned is settled; and every event keeps a sound board sound.
-- Assumes nothing.
use Rattle.std.specs.Prelude.{if◌then◌else◌}
use mathlib.Core.Path.{◌≡◌, refl, ap₂}
use mathlib.Core.Bool.{Bool, true, false}
use mathlib.Core.List.{List, [], ◌∷◌, map}
use Prim.Native.Nat.{ℕ, zero, suc, ◌/◌}
use lib.Dec.{ltb}
use lib.ListN.{length}
use Rattle.bits.specs.Bits.{◌is◌}
use Rattle.bits.proofs.Logic.{by_cases, both, join}
use Rattle.port.specs.Rules.{served, released}
use Rattle.chip.specs.declared.Chip.{Chip}
use Rattle.chip.specs.Chip.{settle, on}
use Rattle.chip.specs.Chip as chip
use Rattle.chip.specs.Sound.{sound_chip}
use Rattle.chip.proofs.Keep.{settle_same, fetch_sound, serve_sound, release_sound, reset_sound}
use Rattle.events.specs.Events.{changed}
use Rattle.events.specs.Act.{step}
use Rattle.events.proofs.Keep.{byte_in, step_is, step_sound as chip_sound, event_byte}
use Rattle.chain.specs.declared.Decoder.{Decoder}
use Rattle.chain.specs.Places.{adjust}
use Rattle.chain.specs.Chain.{flat, asker, holder, side_of, acknowledged, retired}
use Rattle.chain.specs.Decode.{reti_of}
use Rattle.board.specs.declared.Board.{Board}
use Rattle.board.specs.declared.Doing.{Doing}
use Rattle.board.specs.declared.Doing.TheVariants.{Reset, Fetch, Acknowledge, At}
use Rattle.board.specs.Board.{there, sound_all, size_ok, sound_board}
use Rattle.board.specs.Step.{kind_of, value_of, doing_of, after, refusal, taken, accepted, refused, step_of}
use Rattle.board.proofs.There.{there_taken}

-- ---- what keeps a chip sound keeps a row of chips sound
abbrev pub Keeps : (Chip → Chip) → Type 0
Keeps f = (c : Chip) → sound_chip c ≡ true → sound_chip (f c) ≡ true

pub adjust_sound : (f : Chip → Chip) → Keeps f → (i : ℕ) (cs : List Chip) → sound_all cs ≡ true → sound_all (adjust f i cs) ≡ true
adjust_sound f k i [] h = refl
adjust_sound f k zero (c ∷ cs) h = let s = both (sound_chip c) (sound_all cs) h in join (sound_chip (f c)) (sound_all cs) (k c s.0) s.1
adjust_sound f k (suc i) (c ∷ cs) h = let s = both (sound_chip c) (sound_all cs) h in join (sound_chip c) (sound_all (adjust f i cs)) s.0 (adjust_sound f k i cs s.1)

pub map_sound : (f : Chip → Chip) → Keeps f → (cs : List Chip) → sound_all cs ≡ true → sound_all (map f cs) ≡ true
map_sound f k [] h = refl
map_sound f k (c ∷ cs) h = let s = both (sound_chip c) (sound_all cs) h in join (sound_chip (f c)) (sound_all (map f cs)) (k c s.0) (map_sound f k cs s.1)

choice_sound : (t : Bool) (x y : List Chip) → sound_all x ≡ true → sound_all y ≡ true → sound_all (if t then x else y) ≡ true
choice_sound true x y p q = p
choice_sound false x y p q = q

-- ---- settling
pub settle_all_same : (cs : List Chip) → sound_all cs ≡ true → map settle cs ≡ cs
settle_all_same [] h = refl
settle_all_same (c ∷ cs) h = let s = both (sound_chip c) (sound_all cs) h in ap₂ (λ (x : Chip) (l : List Chip). x ∷ l) (settle_same c s.0) (settle_all_same cs s.1)

-- f, and then all chips settle: that is g at the touched chip, where g is f and its settling on a sound chip
settle_touched : (f g : Chip → Chip) → ((c : Chip) → sound_chip c ≡ true → settle (f c) ≡ g c) → (i : ℕ) (cs : List Chip) → sound_all cs ≡ true → map settle (adjust f i cs) ≡ adjust g i cs
settle_touched f g k i [] h = refl
settle_touched f g k zero (c ∷ cs) h = let s = both (sound_chip c) (sound_all cs) h in ap₂ (λ (x : Chip) (l : List Chip). x ∷ l) (k c s.0) (settle_all_same cs s.1)
settle_touched f g k (suc i) (c ∷ cs) h = let s = both (sound_chip c) (sound_all cs) h in ap₂ (λ (x : Chip) (l : List Chip). x ∷ l) (settle_same c s.0) (settle_touched f g k i cs s.1)

map_twice : (f g : Chip → Chip) (cs : List Chip) → map f (map g cs) ≡ map (λ c. f (g c)) cs
map_twice f g [] = refl
map_twice f g (c ∷ cs) = rw (map_twice f g cs)

-- ---- the least work
abbrev pub cleaned : Chip → Chip
cleaned c = settle (chip.reset c)

abbrev pub quick : Decoder → Doing → List Chip → List Chip
quick d Reset cs = map cleaned cs
quick d (Fetch byte) cs = map chip.fetch (if reti_of d byte then retired cs else cs)
quick d Acknowledge cs = acknowledged cs
quick d (At place e) cs = adjust (step (side_of place) e) (place / 2) cs

retired_sound : (cs : List Chip) → sound_all cs ≡ true → sound_all (retired cs) ≡ true
unfolding retired
retired_sound cs h = adjust_sound (on (side_of (holder (flat cs))) released) (release_sound (side_of (holder (flat cs)))) (holder (flat cs) / 2) cs h

acknowledged_sound : (cs : List Chip) → sound_all cs ≡ true → sound_all (acknowledged cs) ≡ true
unfolding acknowledged
acknowledged_sound cs h = adjust_sound (on (side_of (asker (flat cs))) served) (serve_sound (side_of (asker (flat cs)))) (asker (flat cs) / 2) cs h

abbrev pub bytes_in : Doing → Bool
bytes_in Reset = true
bytes_in (Fetch byte) = true
bytes_in Acknowledge = true
bytes_in (At place e) = byte_in e

fetched_sound : (d : Decoder) (byte : ℕ) (cs : List Chip) → sound_all cs ≡ true → sound_all (quick d (Fetch byte) cs) ≡ true
fetched_sound d byte cs h =
    map_sound chip.fetch fetch_sound (if reti_of d byte then retired cs else cs)
    (choice_sound (reti_of d byte) (retired cs) cs (retired_sound cs h) h)

pub quick_sound : (d : Decoder) (e : Doing) (cs : List Chip) → bytes_in e ≡ true → sound_all cs ≡ true → sound_all (quick d e cs) ≡ true
quick_sound d Reset cs byte h = map_sound cleaned reset_sound cs h
quick_sound d (Fetch v) cs byte h = fetched_sound d v cs h
quick_sound d Acknowledge cs byte h = acknowledged_sound cs h
quick_sound d (At place e) cs byte h = adjust_sound (step (side_of place) e) (λ c. chip_sound (side_of place) e c byte) (place / 2) cs h

pub after_quick : (d : Decoder) (e : Doing) (cs : List Chip) → sound_all cs ≡ true → after d e cs ≡ quick d e cs
after_quick d Reset cs h = map_twice settle chip.reset cs
after_quick d (Fetch v) cs h = settle_all_same (quick d (Fetch v) cs) (fetched_sound d v cs h)
after_quick d Acknowledge cs h = settle_all_same (acknowledged cs) (acknowledged_sound cs h)
after_quick d (At place e) cs h = settle_touched (changed (side_of place) e) (step (side_of place) e) (step_is (side_of place) e) (place / 2) cs h

-- ---- every event keeps a sound board sound
pub parts : (b : Board) → sound_board b ≡ true → (size_ok b.size ≡ true) × (sound_all (there b) ≡ true)
unfolding sound_board
parts b h = both (size_ok b.size) (sound_all (there b)) h

pub taken_sound : (b : Board) (e : Doing) → bytes_in e ≡ true → sound_board b ≡ true → sound_board (taken b e) ≡ true
unfolding sound_board taken
taken_sound b e byte h =
    let s = parts b h in
    join (size_ok b.size) (sound_all (there (taken b e))) s.0
    (rw (there_taken b e, after_quick b.decoder e (there b) s.1) (quick_sound b.decoder e (there b) byte s.1))

pub doing_bytes : (e : List ℕ) → ltb (value_of e) 256 ≡ true → bytes_in (doing_of e) ≡ true
unfolding doing_of
doing_bytes e h =
    by_cases (kind_of e is 0) (λ i. rw i) (λ i. rw i
    (by_cases (kind_of e is 1) (λ i. rw i) (λ i. rw i
    (by_cases (kind_of e is 2) (λ i. rw i) (λ i. rw i (event_byte (kind_of e) (value_of e) h))))))

pub step_sound : (b : Board) (e : List ℕ) → ltb (value_of e) 256 ≡ true → sound_board b ≡ true → sound_board (step_of b e).board ≡ true
unfolding step_of accepted refused
step_sound b e byte h =
    by_cases (length e is 4) (λ i. rw i
    (by_cases (refusal b e is 0) (λ j. rw j (taken_sound b (doing_of e) (doing_bytes e byte) h)) (λ j. rw j h))) (λ i. rw i h)
