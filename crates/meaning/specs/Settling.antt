-- The settling that ends every accepted event: document 01, "After each accepted event", and of its errors "A level still matching
-- that interrupts again after RETI".
-- Assumes nothing.
use Rattle.std.specs.Prelude.{◌≡◌, true, false}
use Rattle.port.specs.Fields.{input_at, waiting_at, matched_at}
use Rattle.port.specs.declared.Port.{Port}
use Rattle.chip.specs.declared.Chip.{Chip}
use Rattle.chip.specs.Chip.{Side, port, settle, reset, fetch, serve, release}
use Rattle.chip.specs.Sound.{sound_chip}

-- q with the input register, waiting and the match memory of p
abbrev pub with_those_of : Port → Port → Port
with_those_of p q = input_at p.input (waiting_at p.waiting (matched_at p.matched q))

pub record Settled (c : Chip) : Type 0 where
  -- it changes the input register, waiting and the match memory, and nothing else
  pub only : (s : Side) → with_those_of (port s c) (port s (settle c)) ≡ port s c
  -- once is enough
  pub once : settle (settle c) ≡ settle c
  -- after a reset nobody waits, whatever the lines
  pub after_reset : (s : Side) → (port s (settle (reset c))).waiting ≡ false
  -- after a fetch, an acknowledge and RETI there is nothing to settle: no level that still matches makes a port wait again
  pub after_fetch : sound_chip c ≡ true → settle (fetch c) ≡ fetch c
  pub after_acknowledge : sound_chip c ≡ true → (s : Side) → settle (serve s c) ≡ serve s c
  pub after_reti : sound_chip c ≡ true → (s : Side) → settle (release s c) ≡ release s c

abbrev pub Settles : Type 0
Settles = (c : Chip) → Settled c
