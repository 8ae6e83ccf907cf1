-- One step: document 01, "Records" with its table and the order of refusals, "Control words", "Data, handshake, bits" and "Chain and
-- RETI" for the whole board. An event is its four bytes: kind, place, value, 0.
-- Assumes nothing.
use Rattle.std.specs.Prelude.{Bool, true, false, ◌&&◌, ◌||◌, not, List, [], ◌∷◌, map, ℕ, ◌*◌, ◌/◌, ltb, length, get_or, if◌then◌else◌}
use Rattle.bits.specs.Bits.{◌is◌}
use Rattle.port.specs.Rules.{shown_of}
use Rattle.refusals.specs.Numbers.{code_of}
use Rattle.words.specs.Words.{heard_of}
use Rattle.chip.specs.declared.Chip.{Chip}
use Rattle.chip.specs.Chip.{is_b, settle}
use Rattle.chip.specs.Chip as chip
use Rattle.events.specs.declared.Event.{Event}
use Rattle.events.specs.declared.Event.TheVariants.{Control, Write, Read, Strobe, Outside}
use Rattle.events.specs.Events.{changed}
use Rattle.events.specs.Act.{event_of}
use Rattle.chain.specs.declared.Decoder.{Decoder}
use Rattle.chain.specs.Places.{adjust}
use Rattle.chain.specs.Chain.{asker, asks, side_of, acknowledged, retired}
use Rattle.chain.specs.Decode.{shut, next_of, reti_of}
use Rattle.board.specs.declared.Board.{Board}
use Rattle.board.specs.declared.Answer.{Answer}
use Rattle.board.specs.declared.Code.{Code}
use Rattle.board.specs.declared.Code.TheVariants.{Done, Data, Answered, Nobody}
use Rattle.board.specs.declared.Doing.{Doing}
use Rattle.board.specs.declared.Doing.TheVariants.{Reset, Fetch, Acknowledge, At}
use Rattle.board.specs.Board.{ports, port_at, within, sound_board, request_of}

-- ---- an event's four bytes
abbrev pub kind_of : List ℕ → ℕ
kind_of e = get_or e 0 0

abbrev pub place_of : List ℕ → ℕ
place_of e = get_or e 1 0

abbrev pub value_of : List ℕ → ℕ
value_of e = get_or e 2 0

abbrev pub last_of : List ℕ → ℕ
last_of e = get_or e 3 0

-- ---- the codes of an event that is not refused: 0 done; 1 data read; 2 acknowledge, a port answers; 3 "acknowledge, nobody"
abbrev pub byte_of : Code → ℕ
byte_of Done = 0
byte_of Data = 1
byte_of Answered = 2
byte_of Nobody = 3

-- ---- refusals: a line of the table is a test and its code. The first that is true decides; 0 if none is
pub data Line : Type 0 where
  line : Bool → ℕ → Line

abbrev pub verdict : List Line → ℕ
verdict [] = 0
verdict (line true code ∷ l) = code
verdict (line false code ∷ l) = verdict l

-- "place not on the board, or not 0 in kinds 0 to 2"
abbrev pub place_bad : ℕ → ℕ → ℕ → Bool
place_bad size kind place = not (ltb place (size * 2)) || (ltb kind 3 && not (place is 0))

-- "value not allowed for the kind, or fourth byte not 0": kinds 0, 2 and 5 have value 0, a strobe level is 0 or 1
abbrev pub value_bad : ℕ → ℕ → ℕ → Bool
value_bad kind value last = ((kind is 0 || kind is 2 || kind is 5) && not (value is 0)) || ((kind is 6) && not (ltb value 2)) || not (last is 0)

-- what a control byte comes to at its place: 0, or 19, or 20
abbrev pub word_code : Board → ℕ → ℕ → ℕ
word_code b place value = code_of (heard_of (port_at b place).awaiting (is_b (side_of place)) value)

-- "Order: 35, 16, 17, 18, 19, 20"
abbrev pub lines : Board → List ℕ → List Line
lines b e =
    line (not (sound_board b)) 35
    ∷ line (ltb 7 (kind_of e)) 16
    ∷ line (place_bad b.size (kind_of e) (place_of e)) 17
    ∷ line (value_bad (kind_of e) (value_of e) (last_of e)) 18
    ∷ line ((kind_of e is 3) && (word_code b (place_of e) (value_of e) is 19)) 19
    ∷ line ((kind_of e is 3) && (word_code b (place_of e) (value_of e) is 20)) 20
    ∷ []

unfoldable pub refusal : Board → List ℕ → ℕ
refusal b e = verdict (lines b e)

-- ---- what an accepted event does
-- kinds: 0 reset, 1 opcode fetch, 2 interrupt acknowledge, 3 to 7 at a place
unfoldable pub doing_of : List ℕ → Doing
doing_of e =
    if kind_of e is 0 then Reset else
    if kind_of e is 1 then Fetch (value_of e) else
    if kind_of e is 2 then Acknowledge else
    At (place_of e) (event_of (kind_of e) (value_of e))

-- what it changes of the chips that are there; `d` is the decoder before it
abbrev pub change : Decoder → Doing → List Chip → List Chip
change d Reset cs = map chip.reset cs
change d (Fetch byte) cs = map chip.fetch (if reti_of d byte then retired cs else cs)
change d Acknowledge cs = acknowledged cs
change d (At place e) cs = adjust (changed (side_of place) e) (place / 2) cs

-- and then, at all places, registers follow and matches are seen
abbrev pub after : Decoder → Doing → List Chip → List Chip
after d e cs = map settle (change d e cs)

-- "Acknowledge and reset forget an open ED; other events do not"
abbrev pub decoder_after : Decoder → Doing → Decoder
decoder_after d Reset = shut
decoder_after d (Fetch byte) = next_of d byte
decoder_after d Acknowledge = shut
decoder_after d (At place e) = d

unfoldable pub taken : Board → Doing → Board
taken b e = record {
  size = b.size;
  chips = within b.size (after b.decoder e) b.chips;
  decoder = decoder_after b.decoder e;
}

-- ---- answers
abbrev pub answer : ℕ → ℕ → ℕ → ℕ → Answer
answer code place value request = record { code = code; place = place; value = value; request = request }

-- code, place and value by the table; `value` is the event's. The board is that before the event, the request that after it
abbrev pub answer_at : Board → ℕ → Event → ℕ → ℕ → Answer
answer_at b place (Control v) value request = answer 0 place value request
answer_at b place (Write v) value request = answer 0 place value request
answer_at b place Read value request = answer 1 place (shown_of (port_at b place)) request
answer_at b place (Strobe level) value request = answer 0 place value request
answer_at b place (Outside v) value request = answer 0 place value request

abbrev pub answered : Board → Doing → ℕ → ℕ → Answer
answered b Reset value request = answer 0 0 value request
answered b (Fetch byte) value request = answer 0 0 value request
answered b Acknowledge value request =
    if asks (ports b)
    then answer 2 (asker (ports b)) (port_at b (asker (ports b))).vector request
    else answer 3 0 255 request
answered b (At place e) value request = answer_at b place e value request

-- the four bytes of an answer
unfoldable pub bytes_of : Answer → List ℕ
bytes_of a = a.code ∷ a.place ∷ a.value ∷ a.request ∷ []

-- ---- the step
pub record Stepped : Type 0 where
  pub board : Board
  pub answer : Answer

-- an accepted event
unfoldable pub accepted : Board → List ℕ → Stepped
accepted b e = record {
  board = taken b (doing_of e);
  answer = answered b (doing_of e) (value_of e) (request_of (taken b (doing_of e)));
}

-- "Every refusal gives the event's place and value and leaves the board exactly as before", with the request of that board; of a
-- board that is not sound, 0
unfoldable pub refused : Board → List ℕ → Stepped
refused b e = record {
  board = b;
  answer = answer (refusal b e) (place_of e) (value_of e) (if sound_board b then request_of b else 0);
}

-- "a step lent other than exactly four event bytes answers 32, before all these, with place, value and request 0 and the board untouched"
unfoldable pub step_of : Board → List ℕ → Stepped
step_of b e =
    if not (length e is 4) then record { board = b; answer = answer 32 0 0 0 } else
    if refusal b e is 0 then accepted b e else
    refused b e
