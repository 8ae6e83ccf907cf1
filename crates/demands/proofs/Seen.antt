-- What the observer keeps is what is under service, and what the decoder remembers: one accepted event, one step, a session.
-- Assumes nothing.
use Rattle.std.specs.Prelude.{if◌then◌else◌}
use mathlib.Core.Path.{◌≡◌, refl, ap, ap₂, ◌∙◌}
use mathlib.Core.Bool.{Bool, true, false, not}
use mathlib.Core.List.{List, [], ◌∷◌, ◌++◌, map, drop_last, reverse}
use Prim.Native.Nat.{ℕ, zero, suc, ◌/◌}
use lib.Dec.{ltb}
use lib.ListN.{length}
use borrow.Author.Tests.{eqb-true, not-true}
use Rattle.bits.specs.Bits.{◌is◌}
use Rattle.bits.proofs.Logic.{by_cases}
use Rattle.chip.specs.declared.Chip.{Chip}
use Rattle.chip.specs.Chip.{settle}
use Rattle.chip.specs.Chip as chip
use Rattle.chip.proofs.Touch as touch
use Rattle.events.specs.Events.{changed}
use Rattle.events.proofs.Touch.{changed_under}
use Rattle.chain.specs.Places.{places, adjust}
use Rattle.chain.specs.Chain.{under, asker, asks, flat, side_of, acknowledged, retired}
use Rattle.chain.specs.Decode.{reti_of}
use Rattle.chain.proofs.Flat.{flat_at}
use Rattle.board.specs.declared.Board.{Board}
use Rattle.board.specs.Board.{there, ports, request_of}
use Rattle.board.specs.declared.Doing.{Doing}
use Rattle.board.specs.declared.Doing.TheVariants.{Reset, Fetch, Acknowledge, At}
use Rattle.board.specs.Step.{bytes_of, kind_of, value_of, doing_of, change, taken, answered, refusal, accepted, refused, step_of}
use Rattle.board.proofs.There.{there_taken}
use Rattle.records.specs.Records.{records, steps_of, answers_of}
use Rattle.demands.specs.Observer.{Kept, nothing, code, fetched, see, see_all}
use Rattle.demands.specs.Observer as observer
use Rattle.demands.specs.Words.{under_service, remembered}
use Rattle.demands.proofs.Decoding.{reti_is, next_is}
use Rattle.demands.proofs.Same.{farthest, serving_is}
use Rattle.demands.proofs.Turn.{farthest_served, farthest_released}
use Rattle.demands.proofs.Refusals.{step_accepted, step_refused, accepted_code, refused_each}
use Rattle.demands.proofs.Demand1.{not_four_bytes}

-- ---- the bits under service of a row of chips, where every chip, or one, keeps its own
same_map : (f : Chip → Chip) → ((c : Chip) → touch.under (f c) ≡ touch.under c) → (cs : List Chip) → map under (flat (map f cs)) ≡ map under (flat cs)
same_map f h [] = refl
same_map f h (c ∷ cs) = ap₂ (λ (s t : List Bool). s ++ t) (h c) (same_map f h cs)

same_at : (f : Chip → Chip) → ((c : Chip) → touch.under (f c) ≡ touch.under c) → (k : ℕ) (cs : List Chip) → map under (flat (adjust f k cs)) ≡ map under (flat cs)
same_at f h k [] = refl
same_at f h zero (c ∷ cs) = ap (λ (s : List Bool). s ++ map under (flat cs)) (h c)
same_at f h (suc k) (c ∷ cs) = ap (λ (s : List Bool). touch.under c ++ s) (same_at f h k cs)

none_after_reset : (cs : List Chip) → places (map under (flat (map chip.reset cs))) ≡ []
none_after_reset [] = refl
none_after_reset (c ∷ cs) = rw (none_after_reset cs)

-- settling touches nobody's service
pub list_taken : (b : Board) (e : Doing) → under_service (taken b e) ≡ farthest (flat (change b.decoder e (there b)))
list_taken b e = rw (serving_is (ports (taken b e)), there_taken b e, same_map settle (λ c. refl))

pub list_fetched : (t : Bool) (cs : List Chip) → farthest (flat (map chip.fetch (if t then retired cs else cs))) ≡ (if t then drop_last (farthest (flat cs)) else farthest (flat cs))
unfolding retired
list_fetched true cs = rw (same_map chip.fetch (λ c. refl), flat_at) (farthest_released (flat cs))
list_fetched false cs = rw (same_map chip.fetch (λ c. refl))

list_acknowledged : (cs : List Chip) → farthest (flat (acknowledged cs)) ≡ (if asks (flat cs) then farthest (flat cs) ++ (asker (flat cs) ∷ []) else farthest (flat cs))
unfolding acknowledged
list_acknowledged cs = rw flat_at (farthest_served (flat cs))

-- ---- an accepted event, read as the step reads it
abbrev see_doing : Doing → List ℕ → Kept → Kept
see_doing Reset a k = nothing
see_doing (Fetch byte) a k = fetched byte k
see_doing Acknowledge a k = observer.acknowledged a k
see_doing (At place e) a k = k

see_doing_lem : (e a : List ℕ) (k : Kept) → ltb 15 (code a) ≡ false → see e a k ≡ see_doing (doing_of e) a k
unfolding doing_of
see_doing_lem e a k h =
    rw h (by_cases (kind_of e is 0) (λ i. rw i) (λ i. rw i
    (by_cases (kind_of e is 1) (λ i. rw i) (λ i. rw i
    (by_cases (kind_of e is 2) (λ i. rw i) (λ i. rw i))))))

-- ---- the observer is up to date with a board: the list is that of the ports under service, and the history the one remembered
pub record Current (b : Board) (k : Kept) : Type 0 where
  pub list : under_service b ≡ k.list
  pub memory : b.decoder.prefix ≡ remembered k.history

look_taken : (b : Board) (d : Doing) (v r : ℕ) (k : Kept) → Current b k → Current (taken b d) (see_doing d (bytes_of (answered b d v r)) k)
unfolding taken bytes_of
look_taken b Reset v r k u = record { list = list_taken b Reset ∙ ap reverse (none_after_reset (there b)); memory = refl }
look_taken b (Fetch byte) v r k u = record {
  list = list_taken b (Fetch byte) ∙ list_fetched (reti_of b.decoder byte) (there b) ∙ rw (reti_is b.decoder k.history u.memory byte, ← serving_is (ports b), u.list);
  memory = next_is b.decoder k.history u.memory byte;
}
look_taken b Acknowledge v r k u = record {
  list = list_taken b Acknowledge ∙ list_acknowledged (there b) ∙ rw (← serving_is (ports b), u.list) (by_cases (asks (ports b)) (λ e. rw e) (λ e. rw e));
  memory = refl;
}
look_taken b (At place e) v r k u = record {
  list = list_taken b (At place e)
      ∙ ap (λ (s : List Bool). reverse (places s)) (same_at (changed (side_of place) e) (changed_under (side_of place) e) (place / 2) (there b))
      ∙ rw (← serving_is (ports b)) u.list;
  memory = u.memory;
}

-- ---- a step: refused events count for nothing
refused_seen : (e a : List ℕ) (k : Kept) → ltb 15 (code a) ≡ true → k ≡ see e a k
refused_seen e a k h = rw h

module _ (b : Board) (e : List ℕ) (k : Kept) (u : Current b k) where
  look_accepted : length e ≡ 4 → (refusal b e is 0) ≡ true → Current (step_of b e).board (see e (bytes_of (step_of b e).answer) k)
  unfolding accepted bytes_of
  look_accepted four h =
      let low = not-true (ltb 15 (step_of b e).answer.code) (accepted_code b e four (λ n. not (ltb 15 n)) refl h) in
      rw (see_doing_lem e (bytes_of (step_of b e).answer) k low, step_accepted b e four h)
      (look_taken b (doing_of e) (value_of e) (request_of (taken b (doing_of e))) k u)

  look_refused : length e ≡ 4 → (refusal b e is 0) ≡ false → Current (step_of b e).board (see e (bytes_of (step_of b e).answer) k)
  unfolding refused bytes_of
  look_refused four h =
      rw (← refused_seen e (bytes_of (step_of b e).answer) k (refused_each b e four (ltb 15) refl h), step_refused b e four h) u

  pub look_step : Current (step_of b e).board (see e (bytes_of (step_of b e).answer) k)
  unfolding bytes_of
  look_step = by_cases (length e is 4)
      (λ f. let four = eqb-true (length e) 4 f in by_cases (refusal b e is 0) (look_accepted four) (look_refused four))
      (λ f. rw (not_four_bytes b e f, ← refused_seen e (32 ∷ 0 ∷ 0 ∷ 0 ∷ []) k refl) u)

-- ---- a session, from any board on
pub look_run : (b : Board) (es : List (List ℕ)) (k : Kept) → Current b k → Current (steps_of b es) (see_all es (records (answers_of b es)) k)
unfolding steps_of answers_of records bytes_of
look_run b [] k u = u
look_run b (e ∷ es) k u = look_run (step_of b e).board es (see e (bytes_of (step_of b e).answer) k) (look_step b e k u)
