-- The step in two halves, as the code does it: what an event asks of the board, worked out from its four bytes, the size, the decoder and
-- what is known of the chips; and what then happens to one chip or to all. Nothing here need be believed: `advances` in proofs/ says that
-- on a sound board the two together are `step_of`.
-- Assumes nothing.
use Rattle.std.specs.Prelude.{Bool, false, ◌&&◌, ◌||◌, not, List, [], ◌∷◌, map, length, ℕ, ◌-◌, ◌/◌, ◌%◌, ltb, get_or, set, take, Option, Some, None, Result, Ok, Err, if◌then◌else◌}
use Rattle.bits.specs.Bits.{◌is◌}
use Rattle.port.specs.declared.Port.{Port}
use Rattle.refusals.specs.declared.Refusal.{Refusal}
use Rattle.refusals.specs.declared.Refusal.TheVariants.{Kind, Place, Value, Unsound}
use Rattle.refusals.specs.Numbers.{number_of}
use Rattle.chip.specs.declared.Chip.{Chip}
use Rattle.chip.specs.Chip.{port, serve, release, settle}
use Rattle.chip.specs.Chip as chip
use Rattle.events.specs.declared.Acted.{Acted}
use Rattle.events.specs.Act.{Acting, outcome_of, acting_from}
use Rattle.chain.specs.declared.Decoder.{Decoder}
use Rattle.chain.specs.Chain.{most, side_of}
use Rattle.chain.specs.Decode.{reti_of}
use Rattle.chain.specs.Marks.{Marks, marked_of, marks_of, caller_of, holder_of, renewed_of}
use Rattle.board.specs.declared.Board.{Board}
use Rattle.board.specs.declared.Answer.{Answer}
use Rattle.board.specs.declared.Doing.{Doing}
use Rattle.board.specs.declared.Doing.TheVariants.{Reset, Fetch, Acknowledge, At}
use Rattle.board.specs.declared.Look.{Look}
use Rattle.board.specs.declared.Touch.{Touch}
use Rattle.board.specs.declared.Touch.TheVariants.{Release, Serve, Act}
use Rattle.board.specs.declared.Sweep.{Sweep}
use Rattle.board.specs.declared.Sweep.TheVariants.{Clear, Wake}
use Rattle.board.specs.declared.Plan.{Plan}
use Rattle.board.specs.declared.Plan.TheVariants.{Nothing, One, Each}
use Rattle.board.specs.declared.Touched.{Touched}
use Rattle.board.specs.Board.{within, sound_board}
use Rattle.board.specs.Step.{kind_of, place_of, value_of, last_of, line, verdict, place_bad, value_bad, doing_of, decoder_after, answer, Stepped}

-- ---- one look at every chip that is there
abbrev pub stirs_port : Port → Bool
stirs_port p = p.asked && not (p.awaiting is 2) && not p.live

-- a fetch would make a port of the chip live
unfoldable pub stirs : Chip → Bool
stirs c = stirs_port c.a || stirs_port c.b

abbrev pub stirs_some : List Chip → Bool
stirs_some [] = false
stirs_some (c ∷ cs) = stirs c || stirs_some cs

abbrev pub look_of : ℕ → List Chip → Look
look_of n cs = record { marks = marks_of n cs; due = stirs_some (take n cs); request = caller_of (marks_of n cs) }

-- whether the board is sound, and what is known of its chips
abbrev pub looked_of : Board → Bool × Look
looked_of b = (sound_board b, look_of b.size b.chips)

unfoldable pub seen_of : Board → Result Look Refusal
seen_of b = if sound_board b then Ok (look_of b.size b.chips) else Err Unsound

-- the chip k is now c
unfoldable pub noted_of : Look → ℕ → Chip → Look
noted_of l k c = record { marks = marked_of l.marks k c; due = l.due || stirs c; request = renewed_of l.marks k c l.request }

-- ---- the first half
-- the refusals that need no look at a port: 16, 17, 18
unfoldable pub early_of : ℕ → ℕ → ℕ → ℕ → ℕ → ℕ
early_of size kind place value last =
    verdict
    (line (ltb 7 kind) 16
    ∷ line (place_bad size kind place) 17
    ∷ line (value_bad kind value last) 18
    ∷ [])

abbrev pub early_at : ℕ → List ℕ → ℕ
early_at size e = early_of size (kind_of e) (place_of e) (value_of e) (last_of e)

-- the same, or what the event does: `read_is` in proofs/ says that its code is that of `early_at`
unfoldable pub read_of : ℕ → List ℕ → Result Doing Refusal
read_of size e =
    if ltb 7 (kind_of e) then Err Kind else
    if place_bad size (kind_of e) (place_of e) then Err Place else
    if value_bad (kind_of e) (value_of e) (last_of e) then Err Value else
    Ok (doing_of e)

-- the place that a place and 1 name, and nobody for 0
abbrev pub named_by : ℕ → Option ℕ
named_by n = if n is 0 then None else Some (n - 1)

-- a RETI releases the nearest port under service
unfoldable pub freed_of : Decoder → Marks → ℕ → Option ℕ
freed_of d marks byte = if reti_of d byte then named_by (holder_of marks) else None

abbrev pub release_plan : ℕ → ℕ → Option ℕ → Plan
release_plan byte request None = Nothing (answer 0 0 byte request)
release_plan byte request (Some place) = One place Release

-- a fetch: of every chip if one is stirred
unfoldable pub fetch_plan : Decoder → Look → ℕ → Plan
fetch_plan d l byte = if l.due then Each (freed_of d l.marks byte) Wake else release_plan byte l.request (freed_of d l.marks byte)

-- an acknowledge goes to the place that the request names
abbrev pub serve_plan : ℕ → Option ℕ → Plan
serve_plan request None = Nothing (answer 3 0 255 request)
serve_plan request (Some place) = One place Serve

unfoldable pub acknowledge_plan : ℕ → Plan
acknowledge_plan request = serve_plan request (named_by request)

abbrev pub plan_of : Decoder → Look → Doing → Plan
plan_of d l Reset = Each None Clear
plan_of d l (Fetch byte) = fetch_plan d l byte
plan_of d l Acknowledge = acknowledge_plan l.request
plan_of d l (At place e) = One place (Act e)

-- ---- the second half
-- what the logic reads past the end of a row of chips
abbrev pub blank_port : Port
blank_port = record { mode = 0; out = 0; input = 0; lines = 0; strobe = false; ready = false; vector = 0; select = 0; mask = 0; all = false; high = false; asked = false; live = false; waiting = false; service = false; awaiting = 0; matched = false }

abbrev pub blank : Chip
blank = record { a = blank_port; b = blank_port }

-- the chip of a place, in a row
abbrev pub index_of : ℕ → ℕ
index_of place = place / 2 % most

abbrev pub chip_at : Board → ℕ → Chip
chip_at b place = get_or b.chips (index_of place) blank

abbrev pub touched : Chip → ℕ → ℕ → ℕ → Touched
touched c code place value = record { chip = c; code = code; place = place; value = value }

abbrev pub touched_by : ℕ → Acting → Touched
touched_by place a = touched a.chip a.code place a.value

-- what came of an event of kinds 3 to 7 at a chip
unfoldable pub acted_of : Chip → ℕ → ℕ → Result Acted Refusal → Touched
acted_of c place value outcome = touched_by place (acting_from c value outcome)

-- one chip: a RETI's release, an acknowledge's service, or an event of kinds 3 to 7
unfoldable pub touched_of : Chip → ℕ → Touch → ℕ → Touched
touched_of c place Release value = touched (release (side_of place) c) 0 0 value
touched_of c place Serve value = touched (serve (side_of place) c) 2 place (port (side_of place) c).vector
touched_of c place (Act e) value = acted_of c place value (outcome_of (side_of place) e c)

-- every chip: a reset, or a fetch after the release of one port
abbrev pub sweep_of : Sweep → Chip → Chip
sweep_of Clear c = settle (chip.reset c)
sweep_of Wake c = chip.fetch c

abbrev pub freed_chips : List Chip → Option ℕ → List Chip
freed_chips cs None = cs
freed_chips cs (Some place) = set cs (index_of place) (release (side_of place) (get_or cs (index_of place) blank))

abbrev pub swept_of : ℕ → List Chip → Option ℕ → Sweep → List Chip
swept_of n cs freed sweep = within n (map (sweep_of sweep)) (freed_chips cs freed)

-- ---- the two halves together: the board, what is then known of it, and the answer
pub record Advanced : Type 0 where
  pub board : Board
  pub look : Look
  pub answer : Answer

abbrev pub advanced : Board → Look → Answer → Advanced
advanced b l a = record { board = b; look = l; answer = a }

abbrev pub with_chips : Board → List Chip → Board
with_chips b cs = record { size = b.size; chips = cs; decoder = b.decoder }

-- the place's chip is now another
unfoldable pub changed_of : Board → Look → ℕ → Touched → Advanced
changed_of b l place t =
    advanced (with_chips b (set b.chips (index_of place) t.chip)) (noted_of l (index_of place) t.chip)
    (answer t.code t.place t.value (noted_of l (index_of place) t.chip).request)

-- the chips are now others, and a fetch would leave them as they are
abbrev pub with_swept : Board → List Chip → ℕ → Advanced
with_swept b cs value =
    advanced (with_chips b cs) (record { marks = marks_of b.size cs; due = false; request = caller_of (marks_of b.size cs) })
    (answer 0 0 value (caller_of (marks_of b.size cs)))

unfoldable pub carried : Board → Look → Plan → ℕ → Advanced
carried b l (Nothing a) value = advanced b l a
carried b l (One place touch) value = changed_of b l place (touched_of (chip_at b place) place touch value)
carried b l (Each freed sweep) value = with_swept b (swept_of b.size b.chips freed sweep) value

abbrev pub listened : Board → Doing → Board
listened b g = record { size = b.size; chips = b.chips; decoder = decoder_after b.decoder g }

abbrev pub advanced_by : Board → Look → List ℕ → Result Doing Refusal → Advanced
advanced_by b l e (Ok g) = carried (listened b g) l (plan_of b.decoder l g) (value_of e)
advanced_by b l e (Err r) = advanced b l (answer (number_of r) (place_of e) (value_of e) l.request)

unfoldable pub advanced_of : Board → Look → List ℕ → Advanced
advanced_of b l e = advanced_by b l e (read_of b.size e)

-- what of it a step tells
abbrev pub stepped : Advanced → Stepped
stepped a = record { board = a.board; answer = a.answer }

-- ---- any event of any board
-- an event that isn't of four bytes moves nothing
abbrev pub unread : Board → Stepped
unread b = record { board = b; answer = answer 32 0 0 0 }

-- the two halves, whatever the event's length
abbrev pub halves_of : Board → Look → List ℕ → Stepped
halves_of b l e = if not (length e is 4) then unread b else stepped (advanced_of b l e)

-- what a look at the board leads to
abbrev pub first_by : Board → List ℕ → Result Look Refusal → Stepped
first_by b e (Ok l) = stepped (advanced_of b l e)
first_by b e (Err r) = record { board = b; answer = answer (number_of r) (place_of e) (value_of e) 0 }

-- the step of a board of which nothing is known: it is looked over first
abbrev pub first_of : Board → List ℕ → Stepped
first_of b e = if not (length e is 4) then unread b else first_by b e (seen_of b)
