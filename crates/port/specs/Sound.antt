-- Document 01, "Sound board": what it asks of one port, a line each. `on_b`: the port is B of its chip; `follows`, `watched`: as in
-- Rules.antt.
-- Assumes nothing.
use Rattle.std.specs.Prelude.{ℕ, ◌%◌, Bool, ◌&&◌, ◌||◌, not, ltb}
use Rattle.std.specs.Bool.{beq}
use Rattle.bits.specs.Bits.{◌is◌}
use Rattle.port.specs.Rules.{match_now}
use Rattle.port.specs.declared.Port.{Port}

-- modes 0 to 3, never 2 on B
abbrev pub mode_ok : Bool → ℕ → Bool
mode_ok on_b mode = ltb mode 4 && not (on_b && (mode is 2))

-- vectors even
abbrev pub vector_ok : ℕ → Bool
vector_ok vector = vector % 2 is 0

-- live only if asked
abbrev pub enable_ok : Bool → Bool → Bool
enable_ok live asked = not live || asked

-- awaiting is none, select or mask; select only in mode 3; mask never while live
abbrev pub await_ok : ℕ → ℕ → Bool → Bool
await_ok awaiting mode live = ltb awaiting 3 && (not (awaiting is 1) || (mode is 3)) && not (live && (awaiting is 2))

-- the registers: the four lines above
abbrev pub shape_of : Bool → Port → Bool
shape_of on_b p = mode_ok on_b p.mode && vector_ok p.vector && enable_ok p.live p.asked && await_ok p.awaiting p.mode p.live

-- at rest: match memory equal to the match now; an input register that follows equals its lines
abbrev pub rests_of : Bool → Bool → Port → Bool
rests_of follows watched p = beq p.matched (match_now p && watched) && (not follows || (p.input is p.lines))

abbrev pub sound_of : Bool → Bool → Bool → Port → Bool
sound_of on_b follows watched p = shape_of on_b p && rests_of follows watched p
