-- The words that the three demands use: the tables of codes, the order of refusals, the places under service and the nearest of those
-- that wait, what the observer has kept after a session. Who waits, who is enabled and who is under service is read off the ports here,
-- by no definition of the chain's.
-- Assumes nothing.
use Rattle.std.specs.Prelude.{Bool, true, false, ◌&&◌, ◌||◌, not, List, [], ◌∷◌, ◌++◌, ℕ, suc, ◌<◌, ltb, if◌then◌else◌}
use Rattle.bits.specs.Bits.{◌is◌}
use Rattle.port.specs.Fields.{waiting_at, service_at}
use Rattle.port.specs.declared.Port.{Port}
use Rattle.board.specs.declared.Board.{Board}
use Rattle.board.specs.Board.{ports}
use Rattle.board.specs.Step.{Line, line}
use Rattle.records.specs.Records.{records, answers_of}
use Rattle.demands.specs.Observer.{Kept, see_all, opened}

-- the codes of document 01's table, and those of a run
abbrev pub step_codes : List ℕ
step_codes = 0 ∷ 1 ∷ 2 ∷ 3 ∷ 16 ∷ 17 ∷ 18 ∷ 19 ∷ 20 ∷ 35 ∷ []

abbrev pub run_codes : List ℕ
run_codes = 0 ∷ 35 ∷ 32 ∷ 34 ∷ []

abbrev pub listed : ℕ → List ℕ → Bool
listed n [] = false
listed n (m ∷ l) = (m is n) || listed n l

-- of a table of refusals: the line with this code is true and no earlier one is
abbrev pub decides : ℕ → List Line → Bool
decides code [] = false
decides code (line t other ∷ l) = if other is code then t else not t && decides code l

-- the events of an acknowledge and of an opcode fetch
abbrev pub acknowledge : List ℕ
acknowledge = 2 ∷ 0 ∷ 0 ∷ 0 ∷ []

abbrev pub fetch : ℕ → List ℕ
fetch byte = 1 ∷ 0 ∷ byte ∷ 0 ∷ []

-- ---- the ports under service
-- the places under service, farthest first, of ports the first of which stands at `place`
abbrev pub serving : ℕ → List Port → List ℕ
serving place [] = []
serving place (p ∷ ps) = if p.service then serving (suc place) ps ++ (place ∷ []) else serving (suc place) ps

abbrev pub under_service : Board → List ℕ
under_service b = serving 0 (ports b)

-- places below n, each nearer the CPU than the one before
abbrev pub Nearing : ℕ → List ℕ → Type 0
Nearing n [] = Unit {0}
Nearing n (place ∷ l) = (place < n) × Nearing place l

-- ---- the port whose turn it is
-- the nearest waiting port that is enabled, which means live; the number of ports if there is none
abbrev pub first_ready : List Port → ℕ
first_ready [] = 0
first_ready (p ∷ ps) = if p.waiting && p.live then 0 else suc (first_ready ps)

abbrev pub nearest : Board → ℕ
nearest b = first_ready (ports b)

-- it stands nearer than all in a list
abbrev pub nearer : ℕ → List ℕ → Bool
nearer p [] = true
nearer p (place ∷ l) = ltb p place && nearer p l

-- of n ports there is a live waiting one, and it stands nearer than all in the list
abbrev pub turn : ℕ → Board → List ℕ → Bool
turn n b list = ltb (nearest b) n && nearer (nearest b) list

-- a port that has answered "no longer waits and is under service"
abbrev pub answering : Port → Port
answering p = waiting_at false (service_at true p)

-- ---- the observer beside a board
-- what the decoder has to remember of a history: 1 for an open ED
abbrev pub remembered : List ℕ → ℕ
remembered history = if opened history then 1 else 0

-- what an observer has who comes to a board, knows what was fetched and sees who is under service
abbrev pub found : List ℕ → Board → Kept
found history b = record { history = history; list = under_service b }

-- what the observer has after a session, who had `k` before it and sees the bytes of its events and answers
abbrev pub kept : Kept → Board → List (List ℕ) → Kept
kept k b es = see_all es (records (answers_of b es)) k

-- every number is a byte
abbrev pub bytes : List ℕ → Bool
bytes [] = true
bytes (v ∷ l) = ltb v 256 && bytes l

abbrev pub all_bytes : List (List ℕ) → Bool
all_bytes [] = true
all_bytes (e ∷ es) = bytes e && all_bytes es
