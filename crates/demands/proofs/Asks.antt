-- Ask 2: whom the fourth byte names.
-- Assumes nothing.
use Rattle.std.specs.Prelude.{if◌then◌else◌}
use mathlib.Core.Path.{◌≡◌, refl}
use mathlib.Core.Bool.{Bool, true}
use mathlib.Core.List.{List}
use Prim.Native.Nat.{ℕ, ◌+◌, ◌-◌}
use native.Mathlib.Omega.{arith}
use lib.ListN.{length}
use borrow.Author.Tests.{eq-eqb, ne_eqb}
use Rattle.bits.specs.Bits.{◌is◌}
use Rattle.bits.proofs.Logic.{by_cases}
use Rattle.events.specs.declared.Event.TheVariants.{Control, Write, Read, Strobe, Outside}
use Rattle.chain.specs.Chain.{asker, asks}
use Rattle.board.specs.declared.Board.{Board}
use Rattle.board.specs.Board.{ports, port_at, sound_board, request_of}
use Rattle.board.specs.declared.Doing.{Doing}
use Rattle.board.specs.declared.Doing.TheVariants.{Reset, Fetch, Acknowledge, At}
use Rattle.board.specs.Step.{refusal, doing_of, answer, answered, accepted, refused, step_of}
use Rattle.board.proofs.Quick.{step_sound}
use Rattle.demands.specs.Words as words
use Rattle.demands.specs.Asks.{Names, WhoIsAsking}
use Rattle.demands.proofs.Demand3.{acknowledge_accepted, nearest_is, turn_is, no_request, value_byte}

-- ---- an answer's fourth byte is the request that it is given
by_either : (t : Bool) (a c p d v q r : ℕ) → (if t then answer a p v r else answer c d q r).request ≡ r
by_either t a c p d v q r = by_cases t (λ e. rw e) (λ e. rw e)

carries : (b : Board) (g : Doing) (v r : ℕ) → (answered b g v r).request ≡ r
carries b Reset v r = refl
carries b (Fetch byte) v r = refl
carries b Acknowledge v r = by_either (asks (ports b)) 2 3 (asker (ports b)) 0 (port_at b (asker (ports b))).vector 255 r
carries b (At place (Control w)) v r = refl
carries b (At place (Write w)) v r = refl
carries b (At place Read) v r = refl
carries b (At place (Strobe level)) v r = refl
carries b (At place (Outside w)) v r = refl

of_the_board : (b : Board) (e : List ℕ) → sound_board b ≡ true → length e ≡ 4 → (step_of b e).answer.request ≡ request_of (step_of b e).board
unfolding step_of accepted refused
of_the_board b e s l =
    rw (eq-eqb (length e) 4 l)
    (by_cases (refusal b e is 0) (λ h. rw h (carries b (doing_of e) _ _)) (λ h. rw (h, s)))

-- ---- the request of a sound board
module _ (b : Board) (s : sound_board b ≡ true) where
  whom : request_of b ≡ (if words.turn (length (ports b)) b (words.under_service b) then words.nearest b + 1 else 0)
  unfolding request_of
  whom = rw (turn_is b) (by_cases (asks (ports b)) (λ t. rw (t, nearest_is b t)) (λ t. rw t))

  would_answer : answered b Acknowledge 0 0 ≡ (if request_of b is 0 then answer 3 0 255 0 else answer 2 (request_of b - 1) (port_at b (request_of b - 1)).vector 0)
  unfolding request_of
  would_answer =
      let n : asker (ports b) + 1 - 1 ≡ asker (ports b) = omega arith in
      by_cases (asks (ports b)) (λ t. rw (t, ne_eqb (asker (ports b) + 1) 0 (λ z. omega (arith, z)), n)) (λ t. rw t)

  answers : (step_of b words.acknowledge).answer ≡ (if request_of b is 0 then answer 3 0 255 0 else answer 2 (request_of b - 1) (port_at b (request_of b - 1)).vector 0)
  unfolding accepted doing_of
  answers = rw (acknowledge_accepted b s, no_request b s) would_answer

  names : Names (request_of b) b
  names = record { whom = whom; answers = answers }

-- ---- ASK 2
pub who_is_asking : WhoIsAsking
who_is_asking b e s l v = rw (of_the_board b e s l) (names (step_of b e).board (step_sound b e (value_byte e v) s))
