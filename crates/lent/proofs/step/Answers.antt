-- `lent::step`: no record, a board that is not sound, or a step.
-- Assumes nothing.
use Rattle.std.proofs.Common.{◌≡◌, ap, ◌∙◌, List, ℕ, Ok, Err}
use Rattle.board.specs.Step.{Stepped, step_of}
use Rattle.board.specs.Halves.{advanced, advanced_of, stepped}
use Rattle.board.proofs.Steps.{step_short, first_seen}
use Rattle.lent.proofs.step.Goals as goal

pub returns-in_default : goal.returns-in_default
returns-in_default c =
    let e = step_short c.args.board.now c.args.event.now c.in_default.ensures.1 in
    record { value = rw (c.into.ensures) (ap (λ (s : Stepped). s.answer) e); board_after = ap (λ (s : Stepped). s.board) e }

pub returns-in-Ok-sound_look : goal.returns-in-Ok-sound_look
returns-in-Ok-sound_look c =
    let seen = c.in-Ok-sound_look.ensures in
    let four = c.in-Ok.ensures.1 in
    let b = c.args.board.now in
    let l = c.in-Ok-sound_look.look in
    let e : stepped (advanced c.advance.new.board c.advance.new.look c.advance.result) ≡ step_of b c.args.event.now =
    ap stepped c.advance.ensures ∙ ap (λ (e : List ℕ). stepped (advanced_of b l e)) four.same ∙ first_seen b c.args.event.now (Ok l) seen.1 four.long seen.0 in
    record { value = ap (λ (s : Stepped). s.answer) e; board_after = ap (λ (s : Stepped). s.board) e }

pub returns-in-Err : goal.returns-in-Err
returns-in-Err c =
    let e = first_seen c.args.board.now c.args.event.now (Err c.in-Err.refusal) c.in-Err.ensures.1 c.in-Ok.ensures.1.long c.in-Err.ensures.0 in
    record { value = rw (c.in-Ok.ensures.1.same, c.into-in-Err.ensures) (ap (λ (s : Stepped). s.answer) e); board_after = ap (λ (s : Stepped). s.board) e }
