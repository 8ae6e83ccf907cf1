-- What settling changes, and after which events there is nothing to settle.
-- Assumes nothing.
use mathlib.Core.Path.{◌≡◌, refl}
use mathlib.Core.Bool.{false}
use Rattle.port.specs.Rules.{match_now}
use Rattle.chip.specs.declared.Chip.{Chip}
use Rattle.chip.specs.Chip.{Side, A, B, port, settle, reset}
use Rattle.chip.proofs.Keep.{settle_twice, fetch_settled, serve_settled, release_settled}
use Rattle.meaning.specs.Settling.{with_those_of, Settles}

only : (c : Chip) (s : Side) → with_those_of (port s c) (port s (settle c)) ≡ port s c
only c A = refl
only c B = refl

after_reset : (c : Chip) (s : Side) → (port s (settle (reset c))).waiting ≡ false
unfolding match_now
after_reset c A = refl
after_reset c B = refl

pub settles : Settles
settles c = record {
  only = only c;
  once = settle_twice c;
  after_reset = after_reset c;
  after_fetch = fetch_settled c;
  after_acknowledge = λ h s. serve_settled s c h;
  after_reti = λ h s. release_settled s c h;
}
