-- What every event keeps of the numbers of a board: the size, the number of chips, that each is a byte, and what the decoder remembers.
-- Assumes nothing.
use Rattle.std.specs.Prelude.{Result, Ok, Err, if◌then◌else◌}
use mathlib.Core.Path.{◌≡◌, refl, ap}
use mathlib.Core.Bool.{Bool, true, false, ◌&&◌, not}
use mathlib.Core.List.{List, [], ◌∷◌}
use Prim.Native.Nat.{ℕ, zero, suc, ◌/◌, ◌%◌, ◌<◌}
use native.Mathlib.Omega.{arith}
use lib.Dec.{ltb}
use lib.ListN.{length, set, drop, length-append, take-append-drop}
use borrow.Author.Tests.{ltb-true, lt-ltb}
use Rattle.bits.specs.Bits.{◌is◌}
use Rattle.bits.proofs.Logic.{by_cases, both, join}
use Rattle.port.specs.Fields.{select_at, mask_at}
use Rattle.port.specs.Rules.{settled, cleared}
use Rattle.port.specs.declared.Port.{Port}
use Rattle.words.specs.Words.{heard_of, obeyed}
use Rattle.words.specs.declared.Word.{Word}
use Rattle.words.specs.declared.Word.TheVariants.{Vector, Mode, Interrupt, Enable, Select, Mask}
use Rattle.refusals.specs.declared.Refusal.{Refusal}
use Rattle.chip.specs.declared.Chip.{Chip}
use Rattle.chip.specs.Chip.{Side, A, B, is_b, port, off, follows}
use Rattle.events.specs.declared.Event.{Event}
use Rattle.events.specs.declared.Event.TheVariants.{Control, Write, Read, Strobe, Outside}
use Rattle.events.specs.Events.{heard, obey_heard, changed}
use Rattle.events.proofs.Keep.{byte_in}
use Rattle.chain.specs.declared.Decoder.{Decoder}
use Rattle.chain.specs.Chain.{flat}
use Rattle.chain.specs.Decode.{next_of}
use Rattle.board.specs.declared.Board.{Board}
use Rattle.board.specs.Board.{there}
use Rattle.board.specs.declared.Doing.{Doing}
use Rattle.board.specs.declared.Doing.TheVariants.{Reset, Fetch, Acknowledge, At}
use Rattle.board.specs.Step.{doing_of, after, decoder_after, taken, refusal, accepted, refused, step_of}
use Rattle.board.proofs.There.{after_length}
use Rattle.board.proofs.Quick.{bytes_in, doing_bytes}
use Rattle.demands.specs.Words.{bytes}
use Rattle.demands.proofs.Demand3.{value_byte}
use Rattle.meaning.specs.Words.{Each}
use Rattle.meaning.specs.Sessions.{KeepsSize, registers, numbers, KeepsBytes, KeepsPrefix}
use Rattle.meaning.proofs.Rows.{Lasting, KeptAt, all_keeps}

-- ---- numbers below 256, one by one
abbrev Bytes : List ℕ → Type 0
Bytes [] = Unit {0}
Bytes (v ∷ l) = (v < 256) × Bytes l

bytes_say : (l : List ℕ) → bytes l ≡ true → Bytes l
bytes_say [] h = tt
bytes_say (v ∷ l) h = let s = both (ltb v 256) (bytes l) h in (ltb-true v 256 s.0, bytes_say l s.1)

bytes_are : (l : List ℕ) → Bytes l → bytes l ≡ true
bytes_are [] h = refl
bytes_are (v ∷ l) h = join (ltb v 256) (bytes l) (lt-ltb v 256 h.0) (bytes_are l h.1)

put : (k : ℕ) {v : ℕ} (l : List ℕ) → v < 256 → Bytes l → Bytes (set l k v)
put k [] b h = tt
put zero (x ∷ l) b h = (b, h.1)
put (suc k) (x ∷ l) b h = (h.0, put k l b h.1)

-- ---- a port's registers: the mode is 0 of them, out 1, input 2, lines 3, vector 4, select 5, mask 6, awaiting 7
abbrev BytePort : Port → Type 0
BytePort p = Bytes (registers (p ∷ []))

at_register : (p : Port) (k : ℕ) {v : ℕ} → v < 256 → BytePort p → Bytes (set (registers (p ∷ [])) k v)
at_register p k b h = put k (registers (p ∷ [])) b h

choice : (t : Bool) (x y : ℕ) → x < 256 → y < 256 → (if t then x else y) < 256
choice true x y h k = h
choice false x y h k = k

settled_bytes : (f w : Bool) (p : Port) → BytePort p → BytePort (settled f w p)
settled_bytes f w p h = at_register p 2 (choice f p.lines p.input h.1.1.1.0 h.1.1.0) h

cleared_bytes : (p : Port) → BytePort p → BytePort (cleared p)
cleared_bytes p h = (omega arith, (omega arith, (h.1.1.0, (h.1.1.1.0, (h.1.1.1.1.0, (h.1.1.1.1.1.0, (omega arith, (omega arith, tt))))))))

-- ---- control words
abbrev word_byte : Result Word Refusal → Bool
word_byte (Ok (Vector v)) = ltb v 256
word_byte (Ok (Mode m)) = ltb m 256
word_byte (Ok (Interrupt on all high masked)) = true
word_byte (Ok (Enable on)) = true
word_byte (Ok (Select v)) = ltb v 256
word_byte (Ok (Mask v)) = ltb v 256
word_byte (Err r) = true

heard_byte : (awaiting : ℕ) (on_b : Bool) (v : ℕ) → ltb v 256 ≡ true → word_byte (heard_of awaiting on_b v) ≡ true
heard_byte awaiting on_b v h =
    by_cases (awaiting is 1) (λ e. rw e h) (λ e. rw e
    (by_cases (awaiting is 2) (λ e. rw e h) (λ e. rw e
    (by_cases (v % 2 is 0) (λ e. rw e h) (λ e. rw e
    (by_cases (v % 16 is 15) (λ e. rw e
    (by_cases (on_b && (v / 64 is 2)) (λ e. rw e) (λ e. rw e (lt-ltb (v / 64) 256 (omega (arith, ltb-true v 256 h)))))) (λ e. rw e
    (by_cases (v % 16 is 7) (λ e. rw e) (λ e. rw e
    (by_cases (v % 16 is 3) (λ e. rw e) (λ e. rw e)))))))))))

obeyed_bytes : (linked : Bool) (p : Port) (w : Word) → word_byte (Ok w) ≡ true → BytePort p → BytePort (obeyed linked p w)
obeyed_bytes linked p (Vector v) b h = at_register p 4 (ltb-true v 256 b) h
obeyed_bytes linked p (Mode m) b h =
    put 7 (m ∷ p.out ∷ p.input ∷ p.lines ∷ p.vector ∷ p.select ∷ p.mask ∷ p.awaiting ∷ [])
    (choice (m is 3) 1 0 (omega arith) (omega arith)) (ltb-true m 256 b, h.1)
obeyed_bytes linked p (Interrupt on all high true) b h = at_register p 7 (omega arith) h
obeyed_bytes linked p (Interrupt on all high false) b h = h
obeyed_bytes linked p (Enable on) b h = h
obeyed_bytes linked p (Select v) b h = put 7 (registers (select_at v p ∷ [])) (omega arith) (at_register p 5 (ltb-true v 256 b) h)
obeyed_bytes linked p (Mask v) b h = put 7 (registers (mask_at v p ∷ [])) (omega arith) (at_register p 6 (ltb-true v 256 b) h)

-- ---- a chip
abbrev ByteChip : Chip → Type 0
ByteChip c = BytePort c.a × BytePort c.b

word_bytes : (s : Side) (w : Result Word Refusal) (c : Chip) → word_byte w ≡ true → ByteChip c → ByteChip (obey_heard s w c)
word_bytes A (Ok w) c b h = (obeyed_bytes false c.a w b h.0, h.1)
word_bytes B (Ok w) c b h = (h.0, obeyed_bytes (off B c) c.b w b h.1)
word_bytes s (Err r) c b h = h

event_bytes : (e : Event) → byte_in e ≡ true → (s : Side) (c : Chip) → ByteChip c → ByteChip (changed s e c)
event_bytes (Control v) b s c h = word_bytes s (heard s v c) c (heard_byte (port s c).awaiting (is_b s) v b) h
event_bytes (Write v) b A c h = (at_register c.a 1 (ltb-true v 256 b) h.0, h.1)
event_bytes (Write v) b B c h = (h.0, at_register c.b 1 (ltb-true v 256 b) h.1)
event_bytes Read b A c h = h
event_bytes Read b B c h = h
event_bytes (Strobe level) b A c h = h
event_bytes (Strobe level) b B c h = h
event_bytes (Outside v) b A c h = (at_register c.a 3 (ltb-true v 256 b) h.0, h.1)
event_bytes (Outside v) b B c h = (h.0, at_register c.b 3 (ltb-true v 256 b) h.1)

bytes_at : (e : Doing) → bytes_in e ≡ true → KeptAt ByteChip e
bytes_at Reset b = tt
bytes_at (Fetch byte) b = tt
bytes_at Acknowledge b = tt
bytes_at (At place e) b = event_bytes e b

bytes_last : Lasting ByteChip
bytes_last = record {
  settling = λ c h. (settled_bytes (follows A c) true c.a h.0, settled_bytes (follows B c) (not (off B c)) c.b h.1);
  reset = λ c h. (cleared_bytes c.a h.0, cleared_bytes c.b h.1);
  fetch = λ c h. h;
  service_of_a = λ c h. h;
  service_of_b = λ c h. h;
  release_of_a = λ c h. h;
  release_of_b = λ c h. h;
}

-- ---- a row of chips, and its numbers in a row
front : (p : Port) (ps : List Port) → Bytes (registers (p ∷ ps)) → BytePort p × Bytes (registers ps)
front p ps h = (
  (h.0, (h.1.0, (h.1.1.0, (h.1.1.1.0, (h.1.1.1.1.0, (h.1.1.1.1.1.0, (h.1.1.1.1.1.1.0, (h.1.1.1.1.1.1.1.0, tt)))))))),
  h.1.1.1.1.1.1.1.1,
)

before : (p : Port) (ps : List Port) → BytePort p → Bytes (registers ps) → Bytes (registers (p ∷ ps))
before p ps h k = (h.0, (h.1.0, (h.1.1.0, (h.1.1.1.0, (h.1.1.1.1.0, (h.1.1.1.1.1.0, (h.1.1.1.1.1.1.0, (h.1.1.1.1.1.1.1.0, k))))))))

each_byte : (cs : List Chip) → Bytes (registers (flat cs)) → Each ByteChip cs
each_byte [] h = tt
each_byte (c ∷ cs) h =
    let a = front c.a (c.b ∷ flat cs) h in
    let b = front c.b (flat cs) a.1 in
    ((a.0, b.0), each_byte cs b.1)

in_a_row : (cs : List Chip) → Each ByteChip cs → Bytes (registers (flat cs))
in_a_row [] h = tt
in_a_row (c ∷ cs) h = before c.a (c.b ∷ flat cs) h.0.0 (before c.b (flat cs) h.0.1 (in_a_row cs h.1))

-- ---- the decoder: below 2, and so below any bound that it was below
one_or_none : (t : Bool) → (if t then 1 else 0) < 2
one_or_none true = omega arith
one_or_none false = omega arith

next_prefix : (d : Decoder) (byte : ℕ) → (next_of d byte).prefix < 2
unfolding next_of
next_prefix d byte = one_or_none ((d.prefix is 0) && (byte is 0xED))

prefix_after : (n : ℕ) → 1 < n → (d : Decoder) (e : Doing) → d.prefix < n → (decoder_after d e).prefix < n
prefix_after n l d Reset h = omega arith
prefix_after n l d (Fetch byte) h = omega (arith, next_prefix d byte)
prefix_after n l d Acknowledge h = omega arith
prefix_after n l d (At place e) h = h

step_prefix : (n : ℕ) → 1 < n → (b : Board) (e : List ℕ) → b.decoder.prefix < n → (step_of b e).board.decoder.prefix < n
unfolding step_of accepted refused taken
step_prefix n l b e h =
    by_cases (length e is 4) (λ f. rw f
    (by_cases (refusal b e is 0) (λ g. rw g (prefix_after n l b.decoder (doing_of e) h)) (λ g. rw g h))) (λ f. rw f h)

pub keeps_prefix : KeepsPrefix
keeps_prefix = step_prefix 2 (omega arith)

-- ---- the board
taken_size : (b : Board) (e : Doing) → ((taken b e).size ≡ b.size) × (length (taken b e).chips ≡ length b.chips)
unfolding taken
taken_size b e =
    let x = after b.decoder e (there b) in
    (refl, omega (arith, length-append x (drop b.size b.chips), after_length b.decoder e (there b), length-append (there b) (drop b.size b.chips), ap length (take-append-drop b.size b.chips)))

pub keeps_size : KeepsSize
unfolding step_of accepted refused
keeps_size b e =
    by_cases (length e is 4) (λ f. rw f
    (by_cases (refusal b e is 0) (λ g. rw g (taken_size b (doing_of e))) (λ g. rw g (refl, refl)))) (λ f. rw f (refl, refl))

pub keeps_bytes : KeepsBytes
keeps_bytes b e v h =
    let k = bytes_say (numbers b) h in
    let chips = all_keeps ByteChip bytes_last b e (bytes_at (doing_of e) (doing_bytes e (value_byte e v))) (each_byte b.chips k.1.1) in
    bytes_are (numbers (step_of b e).board)
    (rw (keeps_size b e).0 k.0, (step_prefix 256 (omega arith) b e k.1.0, in_a_row (step_of b e).board.chips chips))
