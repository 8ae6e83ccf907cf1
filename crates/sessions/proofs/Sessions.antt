-- Every row of specs/Sessions.antt, by computation. Written by tests/rows.py: one link of the chain for each row, so that a refusal
-- names the rows that fail.
-- Assumes nothing.
use mathlib.Core.Path.{refl}
use Rattle.bits.specs.Lines.{match_of, mixed_of, levels_of}
use Rattle.port.specs.Rules.{match_now}
use Rattle.chip.specs.Sound.{sound_chip}
use Rattle.events.specs.Act.{event_of}
use Rattle.chain.specs.Chain.{acknowledged, retired}
use Rattle.chain.specs.Decode.{next_of, reti_of}
use Rattle.board.specs.Board.{sound_board, fresh_of, request_of, lines_of}
use Rattle.board.specs.Step.{refusal, doing_of, taken, accepted, refused, step_of}
use Rattle.sessions.specs.Sessions.{rows}
use Rattle.sessions.proofs.Rows.{Each, none, ◌also◌}

pub each_row : Each rows
unfolding match_of mixed_of levels_of match_now sound_chip event_of acknowledged retired next_of reti_of sound_board fresh_of request_of lines_of refusal doing_of taken accepted refused step_of
each_row =
    refl also refl also refl also refl also refl also refl also refl also refl also refl also refl also refl also refl also refl also
    refl also refl also refl also refl also refl also refl also refl also refl also refl also refl also refl also refl also refl also
    refl also refl also refl also refl also refl also refl also refl also refl also refl also refl also refl also refl also refl also
    refl also refl also refl also refl also refl also refl also refl also refl also refl also refl also refl also refl also refl also
    refl also refl also refl also refl also refl also refl also refl also refl also refl also refl also refl also refl also refl also
    refl also refl also refl also refl also refl also refl also refl also refl also refl also refl also refl also refl also refl also
    refl also refl also refl also refl also refl also refl also refl also refl also refl also refl also refl also refl also refl also
    refl also refl also refl also refl also refl also refl also refl also refl also refl also refl also refl also refl also refl also
    refl also refl also refl also refl also refl also refl also refl also refl also refl also refl also refl also refl also refl also
    refl also refl also refl also refl also refl also refl also refl also refl also refl also refl also refl also refl also refl also
    refl also refl also refl also refl also refl also refl also refl also refl also refl also refl also refl also refl also refl also
    refl also refl also refl also refl also refl also refl also refl also refl also refl also refl also refl also refl also refl also
    refl also refl also refl also refl also refl also refl also refl also refl also refl also refl also refl also refl also refl also
    refl also refl also refl also refl also refl also refl also refl also refl also refl also refl also refl also refl also refl also
    refl also refl also refl also refl also refl also refl also refl also refl also refl also refl also refl also refl also refl also
    refl also refl also refl also refl also refl also refl also refl also refl also refl also refl also refl also refl also refl also
    refl also refl also refl also refl also refl also refl also refl also refl also refl also refl also refl also refl also refl also
    refl also refl also refl also refl also refl also refl also refl also refl also refl also refl also refl also refl also refl also
    refl also refl also refl also refl also refl also refl also none
