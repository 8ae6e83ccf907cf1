-- Document 01, "Control words": what a control byte means to a port, and what the port does with it.
-- Assumes nothing.
use Rattle.std.specs.Prelude.{ℕ, ◌/◌, ◌%◌, Bool, false, ◌&&◌, Result, Ok, Err, if◌then◌else◌}
use Rattle.bits.specs.Bits.{◌is◌, bit}
use Rattle.port.specs.Fields.{mode_at, ready_at, vector_at, select_at, mask_at, all_at, high_at, asked_at, live_at, waiting_at, awaiting_at}
use Rattle.port.specs.declared.Port.{Port}
use Rattle.refusals.specs.declared.Refusal.{Refusal}
use Rattle.refusals.specs.declared.Refusal.TheVariants.{NoForm, NotOnB}
use Rattle.words.specs.declared.Word.{Word}
use Rattle.words.specs.declared.Word.TheVariants.{Vector, Mode, Interrupt, Enable, Select, Mask}

-- A port awaiting select (1) or mask (2) takes the next control byte, of any value, as that register. Otherwise: bit 0 is 0,
-- vector; low four bits 1111, mode from bits 7 and 6; 0111, interrupt control; 0011, enable from bit 7; the rest has no form. A mode 2
-- word to B is refused.
abbrev pub heard_of : ℕ → Bool → ℕ → Result Word Refusal
heard_of awaiting on_b v =
    if awaiting is 1 then Ok (Select v) else
    if awaiting is 2 then Ok (Mask v) else
    if v % 2 is 0 then Ok (Vector v) else
    if v % 16 is 15 then (if on_b && (v / 64 is 2) then Err NotOnB else Ok (Mode (v / 64))) else
    if v % 16 is 7 then Ok (Interrupt (bit 7 v) (bit 6 v) (bit 5 v) (bit 4 v)) else
    if v % 16 is 3 then Ok (Enable (bit 7 v)) else
    Err NoForm

-- "Enable off: asked and live both off at once. Enable on: asked; live stays as it was"
abbrev pub enabled : Bool → Port → Port
enabled on p = asked_at on (live_at (on && p.live) p)

-- Mode: "a mode word lowers the port's Ready, except on B while A of that device is in mode 2" (`linked`); "mode 3 then awaits
-- select"; it drops no waiting interrupt. Interrupt control: bit 4 drops the waiting interrupt, awaits a mask, and live goes off.
abbrev pub obeyed : Bool → Port → Word → Port
obeyed linked p (Vector v) = vector_at v p
obeyed linked p (Mode m) = mode_at m (ready_at (p.ready && linked) (awaiting_at (if m is 3 then 1 else 0) p))
obeyed linked p (Interrupt on all high masked) =
    if masked
    then all_at all (high_at high (asked_at on (live_at false (waiting_at false (awaiting_at 2 p)))))
    else all_at all (high_at high (enabled on p))
obeyed linked p (Enable on) = enabled on p
obeyed linked p (Select v) = select_at v (awaiting_at 0 p)
obeyed linked p (Mask v) = mask_at v (awaiting_at 0 p)
