-- Places beyond the size are neither read nor changed.
-- Assumes nothing.
use mathlib.Core.Path.{◌≡◌, refl, sym, ap, ap₂, ◌∙◌}
use mathlib.Core.Bool.{◌&&◌}
use mathlib.Core.List.{List, [], ◌∷◌, ◌++◌}
use Prim.Native.Nat.{ℕ}
use lib.ListN.{length}
use Rattle.bits.specs.Bits.{◌is◌}
use Rattle.bits.proofs.Logic.{by_cases}
use Rattle.chip.specs.declared.Chip.{Chip}
use Rattle.events.specs.declared.Event.{Event}
use Rattle.events.specs.declared.Event.TheVariants.{Control, Write, Read, Strobe, Outside}
use Rattle.chain.specs.declared.Decoder.{Decoder}
use Rattle.board.specs.declared.Board.{Board}
use Rattle.board.specs.declared.Answer.{Answer}
use Rattle.board.specs.Board.{there, size_ok, sound_all, sound_board, request_of, lines_of}
use Rattle.board.specs.declared.Doing.{Doing}
use Rattle.board.specs.declared.Doing.TheVariants.{Reset, Fetch, Acknowledge, At}
use Rattle.board.specs.Step.{bytes_of, value_of, doing_of, after, decoder_after, taken, answer_at, answered, refusal, accepted, refused, step_of}
use Rattle.board.proofs.There.{after_length, there_taken, drop_within}
use Rattle.records.specs.Records.{steps_of, answers_of}
use Rattle.meaning.specs.Beyond.{beyond, Alike, NotRead, NotChanged}

-- ---- not changed
taken_beyond : (b : Board) (e : Doing) → beyond (taken b e) ≡ beyond b
unfolding taken
taken_beyond b e = drop_within b.size (after b.decoder e (there b)) b.chips (after_length b.decoder e (there b))

step_beyond : (b : Board) (e : List ℕ) → beyond (step_of b e).board ≡ beyond b
unfolding step_of accepted refused
step_beyond b e =
    by_cases (length e is 4) (λ f. rw f
    (by_cases (refusal b e is 0) (λ h. rw h (taken_beyond b (doing_of e))) (λ h. rw h))) (λ f. rw f)

steps_beyond : (b : Board) (es : List (List ℕ)) → beyond (steps_of b es) ≡ beyond b
unfolding steps_of
steps_beyond b [] = refl
steps_beyond b (e ∷ es) = steps_beyond (step_of b e).board es ∙ step_beyond b e

pub not_changed : NotChanged
not_changed b = (step_beyond b, steps_beyond b)

-- ---- not read
module _ (b c : Board) (h : Alike b c) where
  same_sound : sound_board b ≡ sound_board c
  unfolding sound_board
  same_sound = ap₂ (λ (n : ℕ) (cs : List Chip). size_ok n && sound_all cs) h.sizes h.chips

  same_request : request_of b ≡ request_of c
  unfolding request_of
  same_request = rw h.chips

  same_lines : (place : ℕ) → lines_of b place ≡ lines_of c place
  unfolding lines_of
  same_lines place = rw (same_sound, h.chips, h.sizes)

  same_refusal : (e : List ℕ) → refusal b e ≡ refusal c e
  unfolding refusal
  same_refusal e = rw (same_sound, h.chips, h.sizes)

  same_at : (place : ℕ) (e : Event) (v r : ℕ) → answer_at b place e v r ≡ answer_at c place e v r
  same_at place (Control w) v r = refl
  same_at place (Write w) v r = refl
  same_at place Read v r = rw h.chips
  same_at place (Strobe level) v r = refl
  same_at place (Outside w) v r = refl

  same_answered : (e : Doing) (v r : ℕ) → answered b e v r ≡ answered c e v r
  same_answered Reset v r = refl
  same_answered (Fetch byte) v r = refl
  same_answered Acknowledge v r = rw h.chips
  same_answered (At place e) v r = same_at place e v r

  taken_alike : (e : Doing) → Alike (taken b e) (taken c e)
  unfolding taken
  taken_alike e = record {
    sizes = h.sizes;
    chips = there_taken b e ∙ ap₂ (λ (d : Decoder) (cs : List Chip). after d e cs) h.decoders h.chips ∙ sym (there_taken c e);
    decoders = ap (λ (d : Decoder). decoder_after d e) h.decoders;
  }

step_alike : (b c : Board) → Alike b c → (e : List ℕ) → ((step_of b e).answer ≡ (step_of c e).answer) × Alike (step_of b e).board (step_of c e).board
unfolding step_of accepted refused
step_alike b c h e =
    rw (same_refusal b c h e)
    (by_cases (length e is 4) (λ f. rw f
    (by_cases (refusal c e is 0)
    (λ g. rw g (
      same_answered b c h (doing_of e) (value_of e) (request_of (taken b (doing_of e)))
          ∙ ap (answered c (doing_of e) (value_of e)) (same_request (taken b (doing_of e)) (taken c (doing_of e)) (taken_alike b c h (doing_of e))),
      taken_alike b c h (doing_of e),
    ))
    (λ g. rw g (rw (same_sound b c h, same_request b c h), h))))
    (λ f. rw f (refl, h)))

steps_alike : (b c : Board) → Alike b c → (es : List (List ℕ)) → (answers_of b es ≡ answers_of c es) × Alike (steps_of b es) (steps_of c es)
unfolding answers_of steps_of
steps_alike b c h [] = (refl, h)
steps_alike b c h (e ∷ es) =
    let s = step_alike b c h e in
    let t = steps_alike (step_of b e).board (step_of c e).board s.1 es in
    (ap₂ (λ (a : Answer) (l : List ℕ). bytes_of a ++ l) s.0 t.0, t.1)

pub not_read : NotRead
not_read b c h = record {
  sound = same_sound b c h;
  request = same_request b c h;
  lines = same_lines b c h;
  answer = λ e. (step_alike b c h e).0;
  after = λ e. (step_alike b c h e).1;
  answers = λ es. (steps_alike b c h es).0;
  after_all = λ es. (steps_alike b c h es).1;
}
