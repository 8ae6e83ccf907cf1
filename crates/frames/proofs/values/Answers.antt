-- The goal of `frames::values`, chip by chip. Assumes nothing.
use Rattle.std.proofs.Common.{◌≡◌, length, sym, rules}
use Rattle.bits.proofs.Tests.{bool_byte_lem}
use Rattle.frames.proofs.Lines.{by_chips}
use Rattle.frames.proofs.values.Goals as goal

pub returns : goal.returns
returns c =
    let long : length c.args.chips ≡ 4 = search rules in
    rw (bool_byte_lem, c.shows.ensures, c.shows-2.ensures, c.shows-3.ensures, c.shows-4.ensures, c.shows-5.ensures, c.shows-6.ensures, c.shows-7.ensures, c.shows-8.ensures)
    (sym (by_chips _ _ _ _ long))
