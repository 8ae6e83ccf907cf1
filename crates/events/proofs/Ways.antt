-- A control byte at one port: what was heard is refused, or obeyed.
-- Assumes nothing.
use Rattle.std.specs.Prelude.{Result, Ok, Err}
use mathlib.Core.Path.{◌≡◌}
use mathlib.Core.Bool.{Bool, true, false}
use Prim.Native.Nat.{ℕ}
use Rattle.port.specs.declared.Port.{Port}
use Rattle.refusals.specs.declared.Refusal.{Refusal}
use Rattle.words.specs.Words.{heard_of}
use Rattle.words.specs.declared.Word.{Word}
use Rattle.chip.specs.declared.Chip.{Chip}
use Rattle.chip.specs.Chip.{side, port}
use Rattle.events.specs.Events.{heard, obey, control_of}

heard_is : (s : Bool) (v : ℕ) (c : Chip) (p : Port) (h : Result Word Refusal) → p ≡ port (side s) c → h ≡ heard_of p.awaiting s v → h ≡ heard (side s) v c
heard_is true v c p h i e = rw (e, i)
heard_is false v c p h i e = rw (e, i)

pub refused :
    (s : Bool) (v : ℕ) (c : Chip) (p : Port) (r : Refusal) → p ≡ port (side s) c → Err r ≡ heard_of p.awaiting s v
    → ◌≡◌ {A = Result Chip Refusal} (Err r) (control_of (side s) v c)
refused s v c p r i e = rw (← heard_is s v c p (Err r) i e)

pub obeyed :
    (s : Bool) (v : ℕ) (c d : Chip) (p : Port) (w : Word) → p ≡ port (side s) c → Ok w ≡ heard_of p.awaiting s v → d ≡ obey (side s) w c
    → ◌≡◌ {A = Result Chip Refusal} (Ok d) (control_of (side s) v c)
obeyed s v c d p w i e q = rw (q, ← heard_is s v c p (Ok w) i e)
