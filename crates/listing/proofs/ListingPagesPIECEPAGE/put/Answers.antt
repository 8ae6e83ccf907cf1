-- `put` of `listing::Listing` meets its contract. Assumes nothing.
use Rattle.std.proofs.Common.{◌≡◌, ℕ, ◌*◌, ◌/◌, ◌≤◌, List, length, take, refl, arith, Ok}
use Rattle.std.specs.Prelude.{Result}
use Rattle.refusals.specs.declared.Refusal.{Refusal}
use Rattle.board.specs.declared.Board.{Board}
use Rattle.records.specs.Records.{records, steps_of}
use Rattle.run.specs.Run.{ran_by, ran_of}
use Rattle.listing.specs.declared.Listing.{Listing}
use Rattle.listing.proofs.Answers.{taken, after, answered, listed, stays_sound}
use Rattle.listing.proofs.Whole.{pieces}
use Rattle.listing.proofs.ListingPagesPIECEPAGE.put.Goals as goal

went : {r : Result ℕ Refusal} {n : ℕ} {b : Board} (self : Listing) (es : List ℕ) → length es ≤ 16384 → r ≡ Ok n
    → ran_by b r ≡ ran_of self.board (take (4 * (length es / 4)) es) self.answers 0 → (n ≡ length es / 4) × (b ≡ steps_of self.board (records es))
went {r} {n} {b} self es fits is e = after self.board es self.answers self.sound (omega (arith, self.long, fits)) b n (rw is at e)

pub unwrap-count-requires : goal.unwrap-count-requires
unwrap-count-requires c =
    let self = c.args.self.now in
    taken self.board c.args.input.now self.answers self.sound (omega (arith, self.long)) c.run.new.board c.run.result c.run.ensures.value

pub invariant_of-self-clause-sound : goal.invariant_of-self-clause-sound
invariant_of-self-clause-sound c =
    let self = c.args.self.now in
    let now = went self c.args.input.now c.requires c.unwrap-count.ensures c.run.ensures.value in
    rw now.1 (stays_sound self.board c.args.input.now c.type_inv.input self.sound)

pub returns-clause-board_value : goal.returns-clause-board_value
returns-clause-board_value c = (went c.args.self.now c.args.input.now c.requires c.unwrap-count.ensures c.run.ensures.value).1

pub returns-clause-number_value : goal.returns-clause-number_value
returns-clause-number_value c = rw (went c.args.self.now c.args.input.now c.requires c.unwrap-count.ensures c.run.ensures.value).0 refl

pub returns-clause-wrote : goal.returns-clause-wrote
returns-clause-wrote c =
    let self = c.args.self.now in
    let fits : length c.args.input.now ≤ length self.answers = omega (arith, self.long, c.requires) in
    let answers = answered self.board c.args.input.now self.answers self.sound fits in
    let lines = c.put_answers-lines.ensures in
    listed self.board c.args.input.now self.answers self.sound fits self.number (omega arith)
    (rw (c.run.ensures.answers_after, answers) at lines.wrote)
    (rw (c.run.ensures.answers_after, answers) at lines.upper_bound) c.put_tail.ensures.wrote c.put_tail.ensures.upper_bound

pub returns-clause-goes_on : goal.returns-clause-goes_on
returns-clause-goes_on c =
    let self = c.args.self.now in
    let now = went self c.args.input.now c.requires c.unwrap-count.ensures c.run.ensures.value in
    λ whole more. rw (now.0, now.1) (pieces self.board self.number c.args.input.now more (omega arith) whole)
