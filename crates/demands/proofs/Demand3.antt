-- Demand 3. Order and length, the acknowledge and RETI are facts of every sound board and of an observer who is up to date with it;
-- `look_run` keeps the observer so.
-- Assumes nothing.
use Rattle.std.specs.Prelude.{if◌then◌else◌}
use mathlib.Core.Path.{◌≡◌, refl, sym, ap, ◌∙◌}
use mathlib.Core.Bool.{true, ◌&&◌}
use mathlib.Core.List.{List, [], ◌∷◌, map, drop_last}
use Prim.Native.Nat.{ℕ, zero, suc, ◌*◌}
use native.Mathlib.Omega.{arith}
use lib.Dec.{ltb, leb}
use lib.ListN.{length, length-map, length-take, length-replicate, take, replicate, set}
use borrow.Author.Tests.{lt-ltb, leb-true, ne_eqb}
use Rattle.bits.specs.Bits.{◌is◌}
use Rattle.bits.proofs.Logic.{by_cases, both, join}
use Rattle.port.specs.Rules.{served, fresh_port}
use Rattle.chip.specs.Chip.{chip_fresh}
use Rattle.chip.specs.Sound.{sound_chip}
use Rattle.chip.proofs.Keep.{fresh_sound}
use Rattle.chain.specs.Places.{first, places, adjust}
use Rattle.chain.specs.Chain.{most, ready, under, asker, asks, flat, acknowledged}
use Rattle.chain.specs.Decode.{next_of, reti_of}
use Rattle.chain.proofs.Places.{adjust_set, adjust_beyond}
use Rattle.chain.proofs.Flat.{flat_length, flat_at}
use Rattle.board.specs.declared.Board.{Board}
use Rattle.board.specs.Board.{there, ports, port_at, sound_all, size_ok, sound_board, blank_board, fresh_of, request_of}
use Rattle.board.specs.Step.{bytes_of, value_of, refusal, doing_of, taken, accepted, refused, step_of}
use Rattle.board.specs.declared.Doing.{Doing}
use Rattle.board.specs.declared.Doing.TheVariants.{Fetch, Acknowledge}
use Rattle.board.specs.Step as step
use Rattle.board.proofs.There.{after_length, there_taken}
use Rattle.board.proofs.Quick.{after_quick, parts, step_sound}
use Rattle.records.specs.Records.{steps_of}
use Rattle.demands.specs.Observer.{Kept, nothing, decoded}
use Rattle.demands.specs.Words.{acknowledge, fetch, under_service, nearest, turn, answering, remembered, found, kept, bytes, all_bytes}
use Rattle.demands.specs.Demands.{Listed, Demand3, FromFresh, FromSound, FromAny, NoHistory}
use Rattle.demands.proofs.Decoding.{reti_is}
use Rattle.demands.proofs.Same.{ready_is, serving_is}
use Rattle.demands.proofs.Places.{nearing_places, nearing_short, nearer_first}
use Rattle.demands.proofs.Turn.{asks_is, asks_yes, asks_no, quiet}
use Rattle.demands.proofs.Refusals.{step_accepted}
use Rattle.demands.proofs.Seen.{list_taken, list_fetched, Current, look_run}

-- ---- every board
pub listed : (b : Board) (k : Kept) → Current b k → Listed (length (ports b)) b k
listed b k u =
    let order = rw (length-map, ← serving_is (ports b), u.list) at (nearing_places (map under (ports b))) in
    record { exactly = u.list; order = order; short = nearing_short (length (ports b)) k.list order; memory = u.memory }

-- ---- an acknowledge and a fetch of a sound board are accepted
whole_place : (b : Board) → sound_board b ≡ true → ltb 0 (b.size * 2) ≡ true
whole_place b h =
    let s = both (leb 1 b.size) (leb b.size most) (parts b h).0 in
    lt-ltb 0 (b.size * 2) (omega (arith, leb-true 1 b.size s.0))

pub acknowledge_accepted : (b : Board) → sound_board b ≡ true → step_of b acknowledge ≡ accepted b acknowledge
unfolding refusal
acknowledge_accepted b h = step_accepted b acknowledge refl (rw (h, whole_place b h))

fetch_accepted : (b : Board) (byte : ℕ) → sound_board b ≡ true → step_of b (fetch byte) ≡ accepted b (fetch byte)
unfolding refusal
fetch_accepted b byte h = step_accepted b (fetch byte) refl (rw (h, whole_place b h))

-- ---- the board after an acknowledge, and the answer
ports_acknowledged : (b : Board) → sound_board b ≡ true → ports (taken b Acknowledge) ≡ adjust served (asker (ports b)) (ports b)
unfolding acknowledged
ports_acknowledged b h =
    ap flat (there_taken b Acknowledge ∙ after_quick b.decoder Acknowledge (there b) (parts b h).1)
    ∙ flat_at served (asker (ports b)) (there b)

pub nearest_is : (b : Board) → asks (ports b) ≡ true → asker (ports b) ≡ nearest b
nearest_is b e = (asks_yes (ports b) e).0 ∙ sym (ready_is (ports b))

pub turn_is : (b : Board) → turn (length (ports b)) b (under_service b) ≡ asks (ports b)
turn_is b = rw (ready_is (ports b), serving_is (ports b)) (sym (asks_is (ports b) ∙ nearer_first (first (map ready (ports b))) (map under (ports b)) ∙ rw length-map))

served_is : (b : Board) → adjust served (asker (ports b)) (ports b)
    ≡ (if asks (ports b) then set (ports b) (nearest b) (answering (port_at b (nearest b))) else ports b)
served_is b = by_cases (asks (ports b))
    (λ e. rw (e, nearest_is b e) (adjust_set served (nearest b) (ports b) fresh_port))
    (λ e. rw (e, asks_no (ports b) e, adjust_beyond))

answer_is : (b : Board) → bytes_of (step.answered b Acknowledge 0 0) ≡ (if asks (ports b) then 2 ∷ nearest b ∷ (port_at b (nearest b)).vector ∷ 0 ∷ [] else 3 ∷ 0 ∷ 255 ∷ 0 ∷ [])
unfolding bytes_of
answer_is b = by_cases (asks (ports b)) (λ e. rw (e, nearest_is b e)) (λ e. rw e)

module _ (b : Board) (h : sound_board b ≡ true) where
  pub no_request : request_of (taken b Acknowledge) ≡ 0
  unfolding request_of
  no_request = rw (ports_acknowledged b h, quiet (ports b))

  module _ (k : Kept) (u : Current b k) where
    turn_kept : turn (length (ports b)) b k.list ≡ asks (ports b)
    turn_kept = rw (← u.list) (turn_is b)

    goes : bytes_of (step_of b acknowledge).answer ≡ (if turn (length (ports b)) b k.list then 2 ∷ nearest b ∷ (port_at b (nearest b)).vector ∷ 0 ∷ [] else 3 ∷ 0 ∷ 255 ∷ 0 ∷ [])
    unfolding accepted doing_of
    goes = rw (acknowledge_accepted b h, no_request, turn_kept) (answer_is b)

    serves : ports (step_of b acknowledge).board ≡ (if turn (length (ports b)) b k.list then set (ports b) (nearest b) (answering (port_at b (nearest b))) else ports b)
    unfolding accepted doing_of
    serves = rw (acknowledge_accepted b h, turn_kept) (ports_acknowledged b h ∙ served_is b)

    releases : (byte : ℕ) → decoded k.history byte ≡ true → under_service (step_of b (fetch byte)).board ≡ drop_last k.list
    unfolding accepted doing_of
    releases byte e =
        rw (fetch_accepted b byte h)
        (list_taken b (Fetch byte) ∙ list_fetched (reti_of b.decoder byte) (there b) ∙ rw (reti_is b.decoder k.history u.memory byte, e, ← serving_is (ports b), u.list))

    pub rules : Demand3 (length (ports b)) b k
    rules = record { sound = h; keeps = listed b k u; answers = goes; serves = serves; releases = releases }

-- ---- the number of ports stays, and a sound board stays sound
taken_length : (b : Board) (e : Doing) → length (ports (taken b e)) ≡ length (ports b)
taken_length b e = rw (there_taken b e) (omega (arith, flat_length (step.after b.decoder e (there b)), flat_length (there b), after_length b.decoder e (there b)))

pub step_length : (b : Board) (e : List ℕ) → length (ports (step_of b e).board) ≡ length (ports b)
unfolding step_of accepted refused
step_length b e =
    by_cases (length e is 4) (λ f. rw f
    (by_cases (refusal b e is 0) (λ h. rw h (taken_length b (doing_of e))) (λ h. rw h))) (λ f. rw f)

pub steps_length : (b : Board) (es : List (List ℕ)) → length (ports (steps_of b es)) ≡ length (ports b)
unfolding steps_of
steps_length b [] = refl
steps_length b (e ∷ es) = steps_length (step_of b e).board es ∙ step_length b e

pub value_byte : (e : List ℕ) → bytes e ≡ true → ltb (value_of e) 256 ≡ true
value_byte [] h = refl
value_byte (a ∷ []) h = refl
value_byte (a ∷ b ∷ []) h = refl
value_byte (a ∷ b ∷ c ∷ l) h = (both (ltb c 256) (bytes l) (both (ltb b 256) (ltb c 256 && bytes l) (both (ltb a 256) (ltb b 256 && (ltb c 256 && bytes l)) h).1).1).0

pub steps_sound : (b : Board) (es : List (List ℕ)) → sound_board b ≡ true → all_bytes es ≡ true → sound_board (steps_of b es) ≡ true
unfolding steps_of
steps_sound b [] h a = h
steps_sound b (e ∷ es) h a =
    let s = both (bytes e) (all_bytes es) a in
    steps_sound (step_of b e).board es (step_sound b e (value_byte e s.0) h) s.1

-- ---- a fresh board of an allowed size is sound, and nothing is under service
fresh_row_sound : (n m : ℕ) → sound_all (take n (replicate m chip_fresh)) ≡ true
fresh_row_sound zero m = refl
fresh_row_sound (suc n) zero = refl
fresh_row_sound (suc n) (suc m) = join (sound_chip chip_fresh) (sound_all (take n (replicate m chip_fresh))) fresh_sound (fresh_row_sound n m)

fresh_row_none : (n m : ℕ) → places (map under (flat (take n (replicate m chip_fresh)))) ≡ []
fresh_row_none zero m = refl
fresh_row_none (suc n) zero = refl
fresh_row_none (suc n) (suc m) = rw (fresh_row_none n m)

fresh_size : (n : ℕ) → (fresh_of n).code ≡ 0 → size_ok n ≡ true
unfolding fresh_of
fresh_size n h = by_cases (size_ok n) (λ e. e) (λ e. absurd (omega (arith, rw e at h)))

fresh_board : (n : ℕ) → size_ok n ≡ true → (fresh_of n).board ≡ blank_board n
unfolding fresh_of
fresh_board n e = rw e

pub blank_sound : (n : ℕ) → size_ok n ≡ true → sound_board (blank_board n) ≡ true
unfolding sound_board
blank_sound n e = join (size_ok n) (sound_all (there (blank_board n))) e (fresh_row_sound n most)

pub blank_current : (n : ℕ) → Current (blank_board n) nothing
blank_current n = record { list = serving_is (ports (blank_board n)) ∙ rw (fresh_row_none n most); memory = refl }

pub blank_length : (n : ℕ) → size_ok n ≡ true → length (ports (blank_board n)) ≡ n * 2
blank_length n e =
    let s = both (leb 1 n) (leb n most) e in
    omega (arith, flat_length (there (blank_board n)), length-take n (replicate most chip_fresh), length-replicate most chip_fresh, leb-true n most s.1)

-- ---- DEMAND 3
module _ (b : Board) (k : Kept) (u : Current b k) (es : List (List ℕ)) where
  after_all : Current (steps_of b es) (kept k b es)
  after_all = look_run b es k u

  any_list : Listed (length (ports b)) (steps_of b es) (kept k b es)
  any_list = rw (steps_length b es) at (listed (steps_of b es) (kept k b es) after_all)

  pub all_rules : sound_board b ≡ true → all_bytes es ≡ true → Demand3 (length (ports b)) (steps_of b es) (kept k b es)
  all_rules h a = rw (steps_length b es) at (rules (steps_of b es) (steps_sound b es h a) (kept k b es) after_all)

found_current : (b : Board) (history : List ℕ) → b.decoder.prefix ≡ remembered history → Current b (found history b)
found_current b history m = record { list = refl; memory = m }

pub from_any : FromAny
from_any b history es m = any_list b (found history b) (found_current b history m) es

pub from_sound : FromSound
from_sound b history es h m a = all_rules b (found history b) (found_current b history m) es h a

pub from_fresh : FromFresh
from_fresh n es h a =
    let e = fresh_size n h in
    rw (fresh_board n e, ← blank_length n e) (all_rules (blank_board n) nothing (blank_current n) es (blank_sound n e) a)

-- a number that is neither 0 nor 1: no RETI ends, and the decoder is shut
pub no_history : NoHistory
unfolding accepted doing_of taken next_of reti_of
no_history b byte h l =
    let shut = ne_eqb b.decoder.prefix 0 (λ e. omega (arith, e)) in
    let other = ne_eqb b.decoder.prefix 1 (λ e. omega (arith, e)) in
    rw (fetch_accepted b byte h)
    (list_taken b (Fetch byte) ∙ list_fetched (reti_of b.decoder byte) (there b) ∙ rw (other, ← serving_is (ports b)), rw shut)
