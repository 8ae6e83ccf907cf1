-- Demand 3's list, as an observer keeps it who sees the four bytes of each event and the four of its answer, and nothing of the board.
-- No word here is the product's: the observer has its own decoder, over the bytes that it has seen fetched.
-- Assumes nothing.
use Rattle.std.specs.Prelude.{Bool, ◌&&◌, ℕ, suc, ◌%◌, ltb, get_or, if◌then◌else◌}
use mathlib.Core.List.{List, [], ◌∷◌, ◌++◌, drop_last}
use Rattle.bits.specs.Bits.{◌is◌}

-- the bytes fetched since the last acknowledge or reset, the latest first; and the list, with its last entry last
pub record Kept : Type 0 where
  pub history : List ℕ
  pub list : List ℕ

-- at the start of a fresh board, and after each reset
abbrev pub nothing : Kept
nothing = record { history = []; list = [] }

-- ---- a decoded RETI
-- how many EDs stand unbroken at the end of a history
abbrev pub prefixes : List ℕ → ℕ
prefixes [] = 0
prefixes (byte ∷ earlier) = if byte is 0xED then suc (prefixes earlier) else 0

-- "ED opens, the next fetched byte closes. No other byte opens it. ED after ED closes": of those EDs every second one closes
abbrev pub opened : List ℕ → Bool
opened history = prefixes history % 2 is 1

-- the fetch of this byte ends a RETI: it is 4D, and an ED is open
abbrev pub decoded : List ℕ → ℕ → Bool
decoded history byte = opened history && (byte is 0x4D)

-- ---- an event's kind and value, an answer's code and place
abbrev pub kind : List ℕ → ℕ
kind event = get_or event 0 0

abbrev pub value : List ℕ → ℕ
value event = get_or event 2 0

abbrev pub code : List ℕ → ℕ
code answer = get_or answer 0 0

abbrev pub place : List ℕ → ℕ
place answer = get_or answer 1 0

-- ---- what the observer does
-- "a decoded RETI removes the last if there is one"
abbrev pub fetched : ℕ → Kept → Kept
fetched byte k = record {
  history = byte ∷ k.history;
  list = if decoded k.history byte then drop_last k.list else k.list;
}

-- "an answered acknowledge adds its port"; "acknowledge and reset forget an open ED"
abbrev pub acknowledged : List ℕ → Kept → Kept
acknowledged answer k = record { history = []; list = if code answer is 2 then k.list ++ (place answer ∷ []) else k.list }

-- an event and its answer: "refused ones count for nothing", "a reset empties it"
abbrev pub see : List ℕ → List ℕ → Kept → Kept
see event answer k =
    if ltb 15 (code answer) then k else
    if kind event is 0 then nothing else
    if kind event is 1 then fetched (value event) k else
    if kind event is 2 then acknowledged answer k else
    k

-- a session: its events and their answers, in order
abbrev pub see_all : List (List ℕ) → List (List ℕ) → Kept → Kept
see_all [] answers k = k
see_all (event ∷ events) [] k = k
see_all (event ∷ events) (answer ∷ answers) k = see_all events answers (see event answer k)
