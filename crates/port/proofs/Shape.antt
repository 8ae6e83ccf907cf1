-- What each rule does to the registers' half of soundness, one port at a time. Four facts over at most three fields each, so
-- no other field of a port is ever looked at.
-- Assumes nothing.
use mathlib.Core.Path.{◌≡◌, refl}
use mathlib.Core.Bool.{Bool, true, false, ◌&&◌, ◌||◌, not}
use lib.Dec.{ltb}
use Rattle.bits.specs.Bits.{◌is◌}
use Rattle.port.specs.Rules.{woken, cleared}
use Rattle.port.specs.Sound.{mode_ok, vector_ok, enable_ok, await_ok, shape_of}
use Rattle.port.specs.declared.Port.{Port}
use Rattle.bits.proofs.Logic.{both, join}

-- ---- the four facts
abbrev pub Facts : Bool → Port → Type 0
Facts on_b p = (mode_ok on_b p.mode ≡ true) × (vector_ok p.vector ≡ true) × (enable_ok p.live p.asked ≡ true) × (await_ok p.awaiting p.mode p.live ≡ true)

pub facts : (on_b : Bool) (p : Port) → shape_of on_b p ≡ true → Facts on_b p
facts on_b p e =
    let m = mode_ok on_b p.mode in
    let v = vector_ok p.vector in
    let n = enable_ok p.live p.asked in
    let w = await_ok p.awaiting p.mode p.live in
    let x = both (m && v && n) w e in
    let y = both (m && v) n x.0 in
    let z = both m v y.0 in
    (z.0, z.1, y.1, x.1)

pub shape : (on_b : Bool) (p : Port) → Facts on_b p → shape_of on_b p ≡ true
shape on_b p f =
    let m = mode_ok on_b p.mode in
    let v = vector_ok p.vector in
    let n = enable_ok p.live p.asked in
    join (m && v && n) (await_ok p.awaiting p.mode p.live) (join (m && v) n (join m v f.0 f.1) f.2) f.3

-- ---- over single fields
wake_enable : (live asked t : Bool) → enable_ok live asked ≡ true → enable_ok (live || (asked && t)) asked ≡ true
wake_enable true asked t e = e
wake_enable false true true e = refl
wake_enable false true false e = refl
wake_enable false false t e = refl

wake_await : (x live asked t : Bool) → (x && not (live && t)) ≡ true → (x && not ((live || (asked && not t)) && t)) ≡ true
wake_await true true asked t e = e
wake_await true false true true e = refl
wake_await true false true false e = refl
wake_await true false false t e = refl
wake_await false live asked t e = e

-- ---- fetch, reset
pub woken_facts : (on_b : Bool) (p : Port) → Facts on_b p → Facts on_b (woken p)
woken_facts on_b p h = (
  h.0,
  h.1,
  wake_enable p.live p.asked (not (p.awaiting is 2)) h.2,
  wake_await (ltb p.awaiting 3 && (not (p.awaiting is 1) || (p.mode is 3))) p.live p.asked (p.awaiting is 2) h.3,
)

mode_one : (on_b : Bool) → mode_ok on_b 1 ≡ true
mode_one true = refl
mode_one false = refl

pub cleared_facts : (on_b : Bool) (p : Port) → Facts on_b p → Facts on_b (cleared p)
cleared_facts on_b p h = (mode_one on_b, h.1, refl, refl)
