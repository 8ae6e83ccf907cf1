-- A Port with one field set: `NAME_at x p` is p with its field NAME at x, and every other field as in p.
-- Assumes nothing.
use Rattle.std.specs.Prelude.{ℕ, Bool}
use Rattle.port.specs.declared.Port.{Port}

abbrev pub mode_at : ℕ → Port → Port
mode_at x p = record { mode = x; out = p.out; input = p.input; lines = p.lines; strobe = p.strobe; ready = p.ready; vector = p.vector; select = p.select; mask = p.mask; all = p.all; high = p.high; asked = p.asked; live = p.live; waiting = p.waiting; service = p.service; awaiting = p.awaiting; matched = p.matched }

abbrev pub out_at : ℕ → Port → Port
out_at x p = record { mode = p.mode; out = x; input = p.input; lines = p.lines; strobe = p.strobe; ready = p.ready; vector = p.vector; select = p.select; mask = p.mask; all = p.all; high = p.high; asked = p.asked; live = p.live; waiting = p.waiting; service = p.service; awaiting = p.awaiting; matched = p.matched }

abbrev pub input_at : ℕ → Port → Port
input_at x p = record { mode = p.mode; out = p.out; input = x; lines = p.lines; strobe = p.strobe; ready = p.ready; vector = p.vector; select = p.select; mask = p.mask; all = p.all; high = p.high; asked = p.asked; live = p.live; waiting = p.waiting; service = p.service; awaiting = p.awaiting; matched = p.matched }

abbrev pub lines_at : ℕ → Port → Port
lines_at x p = record { mode = p.mode; out = p.out; input = p.input; lines = x; strobe = p.strobe; ready = p.ready; vector = p.vector; select = p.select; mask = p.mask; all = p.all; high = p.high; asked = p.asked; live = p.live; waiting = p.waiting; service = p.service; awaiting = p.awaiting; matched = p.matched }

abbrev pub strobe_at : Bool → Port → Port
strobe_at x p = record { mode = p.mode; out = p.out; input = p.input; lines = p.lines; strobe = x; ready = p.ready; vector = p.vector; select = p.select; mask = p.mask; all = p.all; high = p.high; asked = p.asked; live = p.live; waiting = p.waiting; service = p.service; awaiting = p.awaiting; matched = p.matched }

abbrev pub ready_at : Bool → Port → Port
ready_at x p = record { mode = p.mode; out = p.out; input = p.input; lines = p.lines; strobe = p.strobe; ready = x; vector = p.vector; select = p.select; mask = p.mask; all = p.all; high = p.high; asked = p.asked; live = p.live; waiting = p.waiting; service = p.service; awaiting = p.awaiting; matched = p.matched }

abbrev pub vector_at : ℕ → Port → Port
vector_at x p = record { mode = p.mode; out = p.out; input = p.input; lines = p.lines; strobe = p.strobe; ready = p.ready; vector = x; select = p.select; mask = p.mask; all = p.all; high = p.high; asked = p.asked; live = p.live; waiting = p.waiting; service = p.service; awaiting = p.awaiting; matched = p.matched }

abbrev pub select_at : ℕ → Port → Port
select_at x p = record { mode = p.mode; out = p.out; input = p.input; lines = p.lines; strobe = p.strobe; ready = p.ready; vector = p.vector; select = x; mask = p.mask; all = p.all; high = p.high; asked = p.asked; live = p.live; waiting = p.waiting; service = p.service; awaiting = p.awaiting; matched = p.matched }

abbrev pub mask_at : ℕ → Port → Port
mask_at x p = record { mode = p.mode; out = p.out; input = p.input; lines = p.lines; strobe = p.strobe; ready = p.ready; vector = p.vector; select = p.select; mask = x; all = p.all; high = p.high; asked = p.asked; live = p.live; waiting = p.waiting; service = p.service; awaiting = p.awaiting; matched = p.matched }

abbrev pub all_at : Bool → Port → Port
all_at x p = record { mode = p.mode; out = p.out; input = p.input; lines = p.lines; strobe = p.strobe; ready = p.ready; vector = p.vector; select = p.select; mask = p.mask; all = x; high = p.high; asked = p.asked; live = p.live; waiting = p.waiting; service = p.service; awaiting = p.awaiting; matched = p.matched }

abbrev pub high_at : Bool → Port → Port
high_at x p = record { mode = p.mode; out = p.out; input = p.input; lines = p.lines; strobe = p.strobe; ready = p.ready; vector = p.vector; select = p.select; mask = p.mask; all = p.all; high = x; asked = p.asked; live = p.live; waiting = p.waiting; service = p.service; awaiting = p.awaiting; matched = p.matched }

abbrev pub asked_at : Bool → Port → Port
asked_at x p = record { mode = p.mode; out = p.out; input = p.input; lines = p.lines; strobe = p.strobe; ready = p.ready; vector = p.vector; select = p.select; mask = p.mask; all = p.all; high = p.high; asked = x; live = p.live; waiting = p.waiting; service = p.service; awaiting = p.awaiting; matched = p.matched }

abbrev pub live_at : Bool → Port → Port
live_at x p = record { mode = p.mode; out = p.out; input = p.input; lines = p.lines; strobe = p.strobe; ready = p.ready; vector = p.vector; select = p.select; mask = p.mask; all = p.all; high = p.high; asked = p.asked; live = x; waiting = p.waiting; service = p.service; awaiting = p.awaiting; matched = p.matched }

abbrev pub waiting_at : Bool → Port → Port
waiting_at x p = record { mode = p.mode; out = p.out; input = p.input; lines = p.lines; strobe = p.strobe; ready = p.ready; vector = p.vector; select = p.select; mask = p.mask; all = p.all; high = p.high; asked = p.asked; live = p.live; waiting = x; service = p.service; awaiting = p.awaiting; matched = p.matched }

abbrev pub service_at : Bool → Port → Port
service_at x p = record { mode = p.mode; out = p.out; input = p.input; lines = p.lines; strobe = p.strobe; ready = p.ready; vector = p.vector; select = p.select; mask = p.mask; all = p.all; high = p.high; asked = p.asked; live = p.live; waiting = p.waiting; service = x; awaiting = p.awaiting; matched = p.matched }

abbrev pub awaiting_at : ℕ → Port → Port
awaiting_at x p = record { mode = p.mode; out = p.out; input = p.input; lines = p.lines; strobe = p.strobe; ready = p.ready; vector = p.vector; select = p.select; mask = p.mask; all = p.all; high = p.high; asked = p.asked; live = p.live; waiting = p.waiting; service = p.service; awaiting = x; matched = p.matched }

abbrev pub matched_at : Bool → Port → Port
matched_at x p = record { mode = p.mode; out = p.out; input = p.input; lines = p.lines; strobe = p.strobe; ready = p.ready; vector = p.vector; select = p.select; mask = p.mask; all = p.all; high = p.high; asked = p.asked; live = p.live; waiting = p.waiting; service = p.service; awaiting = p.awaiting; matched = x }
