-- A sound chip stays sound; settling a chip at rest is nothing.
-- Assumes nothing.
use mathlib.Core.Path.{◌≡◌, refl}
use mathlib.Core.Bool.{true, false, not}
use Rattle.port.specs.Rules.{match_now, settled}
use Rattle.port.specs.Sound.{shape_of}
use Rattle.port.specs.declared.Port.{Port}
use Rattle.chip.specs.declared.Chip.{Chip}
use Rattle.chip.specs.Chip.{Side, A, B, off, follows, settle, reset, fetch, serve, release, chip_fresh}
use Rattle.chip.specs.Sound.{sound_port, sound_chip, rests}
use Rattle.bits.proofs.Logic.{both, join}
use Rattle.port.proofs.Shape.{Facts, facts, shape, woken_facts, cleared_facts}
use Rattle.port.proofs.Rest.{settled_rests, rests_settled}

-- ---- soundness, taken apart: the registers' facts of both ports, and rest at both
abbrev pub Shaped : Chip → Type 0
Shaped c = Facts false c.a × Facts true c.b

abbrev pub Resting : Chip → Type 0
Resting c = (rests A c ≡ true) × (rests B c ≡ true)

pub apart : (c : Chip) → sound_chip c ≡ true → Shaped c × Resting c
unfolding sound_chip
apart c h =
    let s = both (sound_port A c) (sound_port B c) h in
    let a = both (shape_of false c.a) (rests A c) s.0 in
    let b = both (shape_of true c.b) (rests B c) s.1 in
    ((facts false c.a a.0, facts true c.b b.0), (a.1, b.1))

pub together : (c : Chip) → Shaped c → Resting c → sound_chip c ≡ true
unfolding sound_chip
together c s r =
    join (sound_port A c) (sound_port B c)
    (join (shape_of false c.a) (rests A c) (shape false c.a s.0) r.0)
    (join (shape_of true c.b) (rests B c) (shape true c.b s.1) r.1)

-- ---- settling
pub settle_rests : (c : Chip) → Resting (settle c)
settle_rests c = (settled_rests (follows A c) true c.a, settled_rests (follows B c) (not (off B c)) c.b)

pub settle_sound : (c : Chip) → Shaped c → sound_chip (settle c) ≡ true
settle_sound c s = together (settle c) s (settle_rests c)

pair_same : (c : Chip) (a b : Port) → a ≡ c.a → b ≡ c.b → ◌≡◌ {A = Chip} (record { a = a; b = b }) c
pair_same c a b e f = rw (e, f)

pub rest_same : (c : Chip) → Resting c → settle c ≡ c
rest_same c r =
    pair_same c (settled (follows A c) true c.a) (settled (follows B c) (not (off B c)) c.b)
    (rests_settled (follows A c) true c.a r.0) (rests_settled (follows B c) (not (off B c)) c.b r.1)

pub settle_same : (c : Chip) → sound_chip c ≡ true → settle c ≡ c
settle_same c h = rest_same c (apart c h).1

pub settle_twice : (c : Chip) → settle (settle c) ≡ settle c
settle_twice c = rest_same (settle c) (settle_rests c)

-- ---- the events of the whole board: reset, fetch, the port that answers, the port that RETI releases
pub fetch_sound : (c : Chip) → sound_chip c ≡ true → sound_chip (fetch c) ≡ true
unfolding match_now
fetch_sound c h = let s = apart c h in together (fetch c) (woken_facts false c.a s.0.0, woken_facts true c.b s.0.1) s.1

pub serve_sound : (s : Side) (c : Chip) → sound_chip c ≡ true → sound_chip (serve s c) ≡ true
unfolding match_now sound_chip
serve_sound A c h = h
serve_sound B c h = h

pub release_sound : (s : Side) (c : Chip) → sound_chip c ≡ true → sound_chip (release s c) ≡ true
unfolding match_now sound_chip
release_sound A c h = h
release_sound B c h = h

pub reset_sound : (c : Chip) → sound_chip c ≡ true → sound_chip (settle (reset c)) ≡ true
reset_sound c h = let s = apart c h in settle_sound (reset c) (cleared_facts false c.a s.0.0, cleared_facts true c.b s.0.1)

-- so after a fetch, an acknowledge and RETI there is nothing to settle
pub fetch_settled : (c : Chip) → sound_chip c ≡ true → settle (fetch c) ≡ fetch c
fetch_settled c h = settle_same (fetch c) (fetch_sound c h)

pub serve_settled : (s : Side) (c : Chip) → sound_chip c ≡ true → settle (serve s c) ≡ serve s c
serve_settled s c h = settle_same (serve s c) (serve_sound s c h)

pub release_settled : (s : Side) (c : Chip) → sound_chip c ≡ true → settle (release s c) ≡ release s c
release_settled s c h = settle_same (release s c) (release_sound s c h)

-- ---- a fresh chip is sound
pub fresh_sound : sound_chip chip_fresh ≡ true
unfolding sound_chip match_now
fresh_sound = refl
