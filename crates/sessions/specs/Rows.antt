-- The words in which the sessions of Sessions.antt are written, and how a row is worked out by the product's own definitions: a fresh
-- board, one step for each event, and what is then to be seen of places.
-- Assumes nothing.
use Rattle.std.specs.Prelude.{ℕ, ◌≡◌, Bool, true, false, ◌&&◌, List, [], ◌∷◌, ◌++◌, get_or, set, replicate, if◌then◌else◌}
use Prim.Native.String.{String}
use Rattle.bits.specs.Bits.{◌is◌}
use Rattle.port.specs.Rules.{served, fresh_port}
use Rattle.port.specs.declared.Port.{Port}
use Rattle.chain.specs.Chain.{flat}
use Rattle.board.specs.declared.Board.{Board}
use Rattle.board.specs.declared.Answer.{Answer}
use Rattle.board.specs.Board.{Told, Made, fresh_of, lines_of}
use Rattle.board.specs.Step.{step_of}

-- ---- events
-- an event's bytes, and the answers that it must have: none where the row asks for none
pub data Turn : Type 0 where
  turn : List ℕ → List Answer → Turn

-- any bytes
abbrev pub bytes : List ℕ → Turn
bytes e = turn e []

-- "kinds: 0 reset, 1 opcode fetch (value is the byte), 2 interrupt acknowledge", of the whole board
abbrev pub reset : Turn
reset = bytes (0 ∷ 0 ∷ 0 ∷ 0 ∷ [])

abbrev pub fetch : ℕ → Turn
fetch byte = bytes (1 ∷ 0 ∷ byte ∷ 0 ∷ [])

abbrev pub acknowledge : Turn
acknowledge = bytes (2 ∷ 0 ∷ 0 ∷ 0 ∷ [])

-- "3 control write, 4 data write, 5 data read, 6 strobe level (0 or 1), 7 outside levels of the eight lines", at a place
abbrev pub control : ℕ → ℕ → Turn
control place byte = bytes (3 ∷ place ∷ byte ∷ 0 ∷ [])

abbrev pub write : ℕ → ℕ → Turn
write place byte = bytes (4 ∷ place ∷ byte ∷ 0 ∷ [])

abbrev pub read : ℕ → Turn
read place = bytes (5 ∷ place ∷ 0 ∷ 0 ∷ [])

abbrev pub strobe_to : ℕ → ℕ → Turn
strobe_to place level = bytes (6 ∷ place ∷ level ∷ 0 ∷ [])

abbrev pub lines_to : ℕ → ℕ → Turn
lines_to place levels = bytes (7 ∷ place ∷ levels ∷ 0 ∷ [])

-- this event, answered so
infixl 68 ◌gives◌
abbrev pub ◌gives◌ : Turn → Answer → Turn
turn e wanted gives a = turn e (a ∷ wanted)

-- ---- what is seen of a place: its port's fields, and what the question for driven lines gives
abbrev pub flag : Bool → ℕ
flag false = 0
flag true = 1

abbrev pub seen : Port → Told → List ℕ
seen p l =
    p.mode
    ∷ flag p.ready
    ∷ p.out
    ∷ p.input
    ∷ p.lines
    ∷ flag p.strobe
    ∷ p.vector
    ∷ p.select
    ∷ p.mask
    ∷ flag p.all
    ∷ flag p.high
    ∷ flag p.asked
    ∷ flag p.live
    ∷ flag p.waiting
    ∷ flag p.service
    ∷ p.awaiting
    ∷ flag p.matched
    ∷ l.code
    ∷ l.levels
    ∷ l.driven
    ∷ []

-- of all eight places, on the board or beyond its size; one that no chip has would show as under service
abbrev pub seen_at : Board → ℕ → List ℕ
seen_at b place = seen (get_or (flat b.chips) place (served fresh_port)) (lines_of b place)

-- a field is its position there
abbrev pub mode : ℕ
mode = 0

abbrev pub ready : ℕ
ready = 1

abbrev pub out : ℕ
out = 2

abbrev pub input : ℕ
input = 3

abbrev pub lines : ℕ
lines = 4

abbrev pub strobe : ℕ
strobe = 5

abbrev pub vector : ℕ
vector = 6

abbrev pub select : ℕ
select = 7

abbrev pub mask : ℕ
mask = 8

abbrev pub and : ℕ
and = 9

abbrev pub high : ℕ
high = 10

abbrev pub asked : ℕ
asked = 11

abbrev pub live : ℕ
live = 12

abbrev pub waiting : ℕ
waiting = 13

abbrev pub service : ℕ
service = 14

abbrev pub awaiting : ℕ
awaiting = 15

abbrev pub matched : ℕ
matched = 16

abbrev pub code : ℕ
code = 17

abbrev pub levels : ℕ
levels = 18

abbrev pub driven : ℕ
driven = 19

abbrev pub fields : ℕ
fields = 20

-- ---- what a row wants at the end: some fields of a place, or all of them, where those not named are as at a fresh board's place
infix 68 ◌≔◌
pub data Setting : Type 0 where
  ◌≔◌ : ℕ → ℕ → Setting

pub data Wanted : Type 0 where
  some : ℕ → List Setting → Wanted
  every : ℕ → List Setting → Wanted

-- ---- rows: a name, the size asked for, the events, what is wanted. `session`: the fresh call gives 0 and a board of that size;
-- `refused`: it gives 33 and a board of size 0
pub data Row : Type 0 where
  session : String → ℕ → List Turn → List Wanted → Row
  refused : String → ℕ → List Turn → List Wanted → Row

-- the events of an earlier row, and then these
abbrev pub after : Row → List Turn → List Turn
after (session name n ts ws) more = ts ++ more
after (refused name n ts ws) more = ts ++ more

-- ---- working a row out
abbrev pub same : List ℕ → List ℕ → Bool
same [] [] = true
same [] (y ∷ ys) = false
same (x ∷ xs) [] = false
same (x ∷ xs) (y ∷ ys) = (x is y) && same xs ys

abbrev pub changed : List Setting → List ℕ → List ℕ
changed [] l = l
changed ((field ≔ n) ∷ ss) l = set (changed ss l) field n

-- "Fresh": mode 1, strobe high, mask 255, and nothing else
abbrev pub blank : List ℕ
blank = changed (mode ≔ 1 ∷ strobe ≔ 1 ∷ mask ≔ 255 ∷ []) (replicate fields 0)

abbrev pub agrees : List ℕ → List Setting → Bool
agrees l [] = true
agrees l ((field ≔ n) ∷ ss) = (get_or l field 256 is n) && agrees l ss

abbrev pub holds : Board → Wanted → Bool
holds b (some place ss) = agrees (seen_at b place) ss
holds b (every place ss) = same (seen_at b place) (changed ss blank)

abbrev pub holds_all : Board → List Wanted → Bool
holds_all b [] = true
holds_all b (w ∷ ws) = holds b w && holds_all b ws

abbrev pub answers : Answer → List Answer → Bool
answers a [] = true
answers a (w ∷ ws) = (a.code is w.code) && (a.place is w.place) && (a.value is w.value) && (a.request is w.request) && answers a ws

abbrev pub plays : Board → List Turn → List Wanted → Bool
plays b [] ws = holds_all b ws
plays b (turn e wanted ∷ ts) ws = answers (step_of b e).answer wanted && plays (step_of b e).board ts ws

abbrev pub made : Made → ℕ → ℕ → List Turn → List Wanted → Bool
made m code size ts ws = (m.code is code) && (m.board.size is size) && plays m.board ts ws

abbrev pub kept : Row → Bool
kept (session name n ts ws) = made (fresh_of n) 0 n ts ws
kept (refused name n ts ws) = made (fresh_of n) 33 0 ts ws

abbrev pub name_of : Row → String
name_of (session name n ts ws) = name
name_of (refused name n ts ws) = name

-- the names of the rows that do not come out as they say
abbrev pub missed : List Row → List String
missed [] = []
missed (r ∷ rs) = if kept r then missed rs else name_of r ∷ missed rs

abbrev pub SessionsHold : List Row → Type 0
SessionsHold rows = missed rows ≡ []
