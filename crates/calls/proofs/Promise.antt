-- The whole promise, from its parts.
-- Assumes nothing.
use mathlib.Core.Path.{sym, ◌∙◌}
use Rattle.sessions.specs.Sessions.{rows}
use Rattle.sessions.proofs.Rows.{together}
use Rattle.sessions.proofs.Sessions.{each_row}
use Rattle.demands.proofs.Asks.{who_is_asking}
use Rattle.meaning.proofs.Sound.{sound_says}
use Rattle.meaning.proofs.Match.{or_match, and_match}
use Rattle.meaning.proofs.Mode2.{mode2}
use Rattle.meaning.proofs.Beyond.{not_read, not_changed}
use Rattle.meaning.proofs.Sessions.{after_any_session}
use Rattle.viewer.proofs.Viewed.{export_reads}
use Rattle.viewer.proofs.Only.{one_text}
use Rattle.calls.specs.Promise.{OnlyOne, Promise}
use Rattle.calls.proofs.Answers.{every_fresh, every_step, every_run_call, every_wave, every_lines}
use Rattle.calls.proofs.Session.{any_calls}

only_one : OnlyOne
only_one = record {
  fresh = λ size r s b c p q. (p.code ∙ sym q.code, p.board ∙ sym q.board);
  step = λ b event old r s c d x y p q. (p.code ∙ sym q.code, p.board ∙ sym q.board, p.buffer ∙ sym q.buffer);
  run = λ b events old start r s c d x y m n p q.
      (p.code ∙ sym q.code, p.board ∙ sym q.board, p.buffer ∙ sym q.buffer, p.count ∙ sym q.count);
  wave = λ b events stamps old r s c d x y m n p q.
      (p.code ∙ sym q.code, p.board ∙ sym q.board, p.buffer ∙ sym q.buffer, p.count ∙ sym q.count);
  lines = λ b place old r s x y p q. (p.code ∙ sym q.code, p.buffer ∙ sym q.buffer);
}

pub promise : Promise
promise = record {
  fresh = every_fresh;
  step = every_step;
  run = every_run_call;
  wave = every_wave;
  lines = every_lines;
  only = only_one;
  sessions = together rows each_row;
  sound = sound_says;
  match = (or_match, and_match);
  mode2 = mode2;
  beyond = (not_read, not_changed);
  always = after_any_session;
  calls = any_calls;
  text = (export_reads, one_text);
  asking = who_is_asking;
}
