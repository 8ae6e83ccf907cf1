-- `wave::put_refusal` meets its contract. Assumes nothing.
use Rattle.std.proofs.Common.{refl, arith}
use Rattle.refusals.specs.declared.Refusal.TheVariants.{Length, Size, Unsound, Records, Text, Stamps}
use Rattle.buffers.specs.Digits.{digits_up, digits_of}
use Rattle.buffers.proofs.Splices.{wrote_all}
use Rattle.wave.specs.Text.{words_of, refusal_line}
use Rattle.wave.proofs.Lines.{said, unsaid}
use Rattle.wave.proofs.put_refusal.Goals as goal

pub returns-in-Size : goal.returns-in-Size
unfolding refusal_line words_of digits_of digits_up
returns-in-Size c = let w = said Size c.in-Size.is refl c.requires (omega arith) c.put_bytes.ensures in record { wrote = w.0; upper_bound = w.1 }

pub returns-in-Unsound : goal.returns-in-Unsound
unfolding refusal_line words_of digits_of digits_up
returns-in-Unsound c = let w = said Unsound c.in-Unsound.is refl c.requires (omega arith) c.put_bytes-in-Unsound.ensures in record { wrote = w.0; upper_bound = w.1 }

pub returns-in-Length : goal.returns-in-Length
unfolding refusal_line words_of digits_of digits_up
returns-in-Length c = let w = said Length c.in-Length.is refl c.requires (omega arith) c.put_bytes-in-Length.ensures in record { wrote = w.0; upper_bound = w.1 }

pub returns-in-Records : goal.returns-in-Records
unfolding refusal_line words_of digits_of digits_up
returns-in-Records c = let w = said Records c.in-Records.is refl c.requires (omega arith) c.put_bytes-in-Records.ensures in record { wrote = w.0; upper_bound = w.1 }

pub returns-in-Stamps : goal.returns-in-Stamps
unfolding refusal_line words_of digits_of digits_up
returns-in-Stamps c = let w = said Stamps c.in-Stamps.is refl c.requires (omega arith) c.put_bytes-in-Stamps.ensures in record { wrote = w.0; upper_bound = w.1 }

pub returns-in-Text : goal.returns-in-Text
unfolding refusal_line words_of digits_of digits_up
returns-in-Text c = let w = said Text c.in-Text.is refl c.requires (omega arith) c.put_bytes-in-Text.ensures in record { wrote = w.0; upper_bound = w.1 }

pub returns-in_default-clause-wrote : goal.returns-in_default-clause-wrote
returns-in_default-clause-wrote c =
    let d = c.in_default in
    rw (← unsaid c.args.refusal d.not-Size d.not-Unsound d.not-Length d.not-Records d.not-Stamps d.not-Text) (wrote_all 29 (omega arith) (rw c.into.ensures at c.put_refused.ensures.wrote))
