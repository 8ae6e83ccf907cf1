-- Document 01, "Data, handshake, bits", "Chain and RETI" and its reset: what each event does to one port. What depends on the
-- other port of the chip comes as a flag, which chip/specs and events/specs give: `off`, the port's own handshake is off; `acts`, the
-- rise of this strobe ends a handshake; `follows`, the input register follows the lines; `watched`, the port's own match is on.
-- Assumes nothing.
use Rattle.std.specs.Prelude.{ℕ, ◌-◌, Bool, true, false, ◌&&◌, ◌||◌, not, if◌then◌else◌}
use Rattle.bits.specs.Lines.{match_of, mixed_of, levels_of}
use Rattle.bits.specs.Bits.{◌is◌}
use Rattle.port.specs.Fields.{mode_at, out_at, input_at, lines_at, matched_at, strobe_at, ready_at, mask_at, asked_at, live_at, waiting_at, service_at, awaiting_at}
use Rattle.port.specs.declared.Port.{Port}

-- ---- data
-- "Write: output register set; Ready rises in modes 0 and 2"
abbrev pub written : Bool → ℕ → Port → Port
written off v p = out_at v (ready_at (p.ready || (not off && (p.mode is 0 || p.mode is 2))) p)

-- "Read: mode 0 the output register; modes 1 and 2 the input register; mode 3 lines on input bits, output register on output bits"
abbrev pub shown_of : Port → ℕ
shown_of p =
    if p.mode is 0 then p.out else
    if p.mode is 3 then mixed_of p.select p.lines p.out else
    p.input

-- "In mode 1 Ready rises", by a read
abbrev pub accessed : Bool → Port → Port
accessed off p = ready_at (p.ready || (not off && (p.mode is 1))) p

-- ---- handshake
-- "Strobe low to high: Ready falls and the port waits. A repeated level is accepted and is no edge", enabled or not
abbrev pub ends : Bool → Bool → Port → Bool
ends acts level p = not p.strobe && level && acts

abbrev pub strobed : Bool → Bool → Port → Port
strobed acts level p = strobe_at level (ready_at (p.ready && not (ends acts level p)) (waiting_at (p.waiting || ends acts level p) p))

-- ---- lines
-- outside levels of the eight lines
abbrev pub lines_now : ℕ → Port → Port
lines_now v p = lines_at v p

-- "Driven lines: mode 0 all; 1 none; 2 all while A's Strobe is low, else none; 3 the output bits"
abbrev pub driven_of : Port → ℕ
driven_of p =
    if p.mode is 0 then 255 else
    if p.mode is 2 then (if p.strobe then 0 else 255) else
    if p.mode is 3 then 255 - p.select else
    0

-- their levels; "an undriven bit shows 0"
abbrev pub levels_now : Port → ℕ
levels_now p = levels_of p.out (driven_of p)

-- ---- match
-- "Match, mode 3, nothing awaited"
unfoldable pub match_now : Port → Bool
match_now p = (p.mode is 3) && (p.awaiting is 0) && match_of p.select p.mask p.lines p.high p.all

-- "After each accepted event a match that was no and is yes makes the port wait"; an input register that follows takes its lines
abbrev pub settled : Bool → Bool → Port → Port
settled follows watched p =
    input_at (if follows then p.lines else p.input)
    (waiting_at (p.waiting || (match_now p && watched && not p.matched))
    (matched_at (match_now p && watched) p))

-- ---- chain
-- "A fetch makes live every asked port that does not await a mask"
abbrev pub woken : Port → Port
woken p = live_at (p.live || (p.asked && not (p.awaiting is 2))) p

-- the port that answers an acknowledge "no longer waits and is under service"; RETI releases it
abbrev pub served : Port → Port
served p = waiting_at false (service_at true p)

abbrev pub released : Port → Port
released p = service_at false p

-- ---- reset and fresh
-- "mode 1, Ready low, mask 255, output 0, asked, live, waiting, service, awaited words cleared; match memory becomes no"; the rest
-- is kept
abbrev pub cleared : Port → Port
cleared p =
    mode_at 1 (ready_at false (mask_at 255 (out_at 0
    (asked_at false (live_at false (waiting_at false (service_at false (awaiting_at 0
    (matched_at false p)))))))))

-- "as reset, all kept things 0, strobes high"
abbrev pub fresh_port : Port
fresh_port = record { mode = 1; out = 0; input = 0; lines = 0; strobe = true; ready = false; vector = 0; select = 0; mask = 255; all = false; high = false; asked = false; live = false; waiting = false; service = false; awaiting = 0; matched = false }
