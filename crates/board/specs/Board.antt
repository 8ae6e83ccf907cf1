-- The board: document 01, "What the module covers", "Sound board" and its fresh board and driven lines.
-- Assumes nothing.
use Rattle.std.specs.Prelude.{Bool, true, ◌&&◌, not, List, [], ◌∷◌, ◌++◌, ℕ, ◌+◌, ◌*◌, ltb, leb, get_or, take, drop, replicate, Result, Ok, Err, if◌then◌else◌}
use Rattle.port.specs.Rules.{fresh_port, driven_of, levels_now}
use Rattle.port.specs.declared.Port.{Port}
use Rattle.refusals.specs.declared.Refusal.{Refusal}
use Rattle.refusals.specs.Numbers.{number_of}
use Rattle.chip.specs.declared.Chip.{Chip}
use Rattle.chip.specs.Chip.{chip_fresh}
use Rattle.chip.specs.Sound.{sound_chip}
use Rattle.chain.specs.Chain.{most, flat, asker, asks}
use Rattle.chain.specs.Decode.{shut}
use Rattle.board.specs.declared.Board.{Board}
use Rattle.board.specs.declared.Lines.{Lines}

-- the chips that are there, and their ports in the order of their places
abbrev pub there : Board → List Chip
there b = take b.size b.chips

abbrev pub ports : Board → List Port
ports b = flat (there b)

abbrev pub port_at : Board → ℕ → Port
port_at b place = get_or (ports b) place fresh_port

-- a change of the chips that are there: "places beyond the size are neither read nor changed"
abbrev pub within : ℕ → (List Chip → List Chip) → List Chip → List Chip
within n f cs = f (take n cs) ++ drop n cs

-- ---- "Sound board. Size 1 to 4", and each chip there as chip/specs/Sound.antt says
abbrev pub sound_all : List Chip → Bool
sound_all [] = true
sound_all (c ∷ cs) = sound_chip c && sound_all cs

abbrev pub size_ok : ℕ → Bool
size_ok n = leb 1 n && leb n most

unfoldable pub sound_board : Board → Bool
sound_board b = size_ok b.size && sound_all (there b)

-- ---- "Fresh board: 33 for a size outside 1 to 4, with a board of size 0 that otherwise holds what a fresh board holds"
abbrev pub blank_board : ℕ → Board
blank_board n = record { size = n; chips = replicate most chip_fresh; decoder = shut }

pub record Made : Type 0 where
  pub code : ℕ
  pub board : Board

unfoldable pub fresh_of : ℕ → Made
fresh_of n =
    if size_ok n then record { code = 0; board = blank_board n } else
    record { code = 33; board = blank_board 0 }

-- the same of a fresh board or a refusal
abbrev pub made_by : Result Board Refusal → Made
made_by (Ok b) = record { code = 0; board = b }
made_by (Err r) = record { code = number_of r; board = blank_board 0 }

-- ---- the request, document 02, Ask 2: "name the nearest asking place: the fourth answer byte is 0 for none and otherwise place + 1"
unfoldable pub request_of : Board → ℕ
request_of b = if asks (ports b) then asker (ports b) + 1 else 0

-- ---- "The question for driven lines gives code 0 and two bytes for a place: the levels, and a 1 for each driven line; it is
-- refused with 35, then 17, both bytes 0"
pub record Told : Type 0 where
  pub code : ℕ
  pub levels : ℕ
  pub driven : ℕ

unfoldable pub lines_of : Board → ℕ → Told
lines_of b place =
    if not (sound_board b) then record { code = 35; levels = 0; driven = 0 } else
    if not (ltb place (b.size * 2)) then record { code = 17; levels = 0; driven = 0 } else
    record { code = 0; levels = levels_now (port_at b place); driven = driven_of (port_at b place) }

-- the same of lines or a refusal
abbrev pub told_by : Result Lines Refusal → Told
told_by (Ok l) = record { code = 0; levels = l.levels; driven = l.driven }
told_by (Err r) = record { code = number_of r; levels = 0; driven = 0 }
