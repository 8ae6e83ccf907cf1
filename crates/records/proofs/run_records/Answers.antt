-- `records::run_records`: each way of a record is a turn of the run.
-- Assumes nothing.
use Rattle.std.proofs.Common.{sym, ap, ◌∙◌, Ok, ◌+◌, ◌*◌, arith}
use Rattle.buffers.specs.Splice.{splice}
use Rattle.buffers.proofs.Splices.{room_rest}
use Rattle.board.proofs.Steps.{kept_begins}
use Rattle.records.proofs.Turns.{begin, done}
use Rattle.records.proofs.Ways.{going, room_here, passing_turn, act_turn, advance_turn, bytes_four}
use Rattle.records.proofs.run_records.Goals as goal

pub loop-i-init : goal.loop-i-init
loop-i-init c =
    let given = c.requires.seen_value in
    record { running = begin _ _ _ _ _; kept = kept_begins c.args.board.now c.args.seen given.1 (sym given.0) }

pub loop-i-preserved-then-idles : goal.loop-i-preserved-then-idles
loop-i-preserved-then-idles c =
    let at =
    going c.args.events.now c.args.answers.now c.args.start c.args.board.now c.loop-i.answers c.loop-i.board c.loop-i.look c.loop-i.i _ c.loop-i.invariant.running
    c.loop-i.invariant.kept (rw c.as_chunks.ensures.front_len at c.loop-i-test.true) c.requires.events_len.1 c.as_chunks.ensures.front
    (omega (arith, c.type_inv.events (4 * c.loop-i.i + 2))) in
    let turn =
    passing_turn at _ _ (sym c.idles.ensures ∙ c.if-idles.true) c.next-board.ensures
    (room_rest _ _ 4 _ _ (room_here at) (omega arith) c.put_record.ensures.out_after) in
    record { running = turn.0; kept = turn.1 }

pub loop-i-preserved-in-Ok-At : goal.loop-i-preserved-in-Ok-At
loop-i-preserved-in-Ok-At c =
    let at =
    going c.args.events.now c.args.answers.now c.args.start c.args.board.now c.loop-i.answers c.loop-i.board c.loop-i.look c.loop-i.i _ c.loop-i.invariant.running
    c.loop-i.invariant.kept (rw c.as_chunks.ensures.front_len at c.loop-i-test.true) c.requires.events_len.1 c.as_chunks.ensures.front
    (omega (arith, c.type_inv.events (4 * c.loop-i.i + 2))) in
    let turn =
    act_turn at c.in-Ok-At.place c.in-Ok-At.what c.act-told.new.c c.act-told.result.code c.act-told.result.value c.noting-look.result _ (sym c.read_event.ensures ∙ c.in-Ok-At.is ∙ ap Ok c.in-Ok-At.field-0-is) c.act-told.ensures c.noting-look.ensures
    (room_rest _ _ 4 _ _ (room_here at) (omega arith) c.put_record-in-Ok-At.ensures.out_after) in
    record { running = turn.0; kept = turn.1 }

pub loop-i-preserved : goal.loop-i-preserved
loop-i-preserved c =
    let at =
    going c.args.events.now c.args.answers.now c.args.start c.args.board.now c.loop-i.answers c.loop-i.board c.loop-i.look c.loop-i.i _ c.loop-i.invariant.running
    c.loop-i.invariant.kept (rw c.as_chunks.ensures.front_len at c.loop-i-test.true) c.requires.events_len.1 c.as_chunks.ensures.front
    (omega (arith, c.type_inv.events (4 * c.loop-i.i + 2))) in
    let turn =
    advance_turn at _ _ c.advance-answer.ensures
    (room_rest _ _ 4 _ _ (room_here at) (bytes_four _ _ c.into.ensures) c.put_record-in-loop-i.ensures.out_after ∙ ap (splice _ _) c.into.ensures) in
    record { running = turn.0; kept = turn.1 }

pub returns-clause-board_after : goal.returns-clause-board_after
returns-clause-board_after c = (done _ _ _ _ _ c.loop-i.invariant.running (rw c.as_chunks.ensures.front_len at c.loop-i-test.false) (omega (arith, c.requires.events_len))).0

pub returns-clause-answers_after : goal.returns-clause-answers_after
returns-clause-answers_after c = (done _ _ _ _ _ c.loop-i.invariant.running (rw c.as_chunks.ensures.front_len at c.loop-i-test.false) (omega (arith, c.requires.events_len))).1
