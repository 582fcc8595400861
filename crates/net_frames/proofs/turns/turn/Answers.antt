use Rattle.std.proofs.Common.{◌++◌, ◌∙◌, ap, sym}
use Rattle.net_frames.proofs.Demanded.{bytes_short, start_given}
use Rattle.net_frames.proofs.turns.turn.Goals as goal

pub start_turn-requires-clause-bytes : goal.start_turn-requires-clause-bytes
start_turn-requires-clause-bytes c =
    bytes_short _ _ _ _ _ c.requires.playing _ c.requires.near c.events_are_demanded.ensures.demanded

pub arrival_turn-requires-clause-bytes : goal.arrival_turn-requires-clause-bytes
arrival_turn-requires-clause-bytes c =
    bytes_short _ _ _ _ _ c.requires.playing _ c.requires.near c.events_are_demanded.ensures.demanded

pub returns-in-Start-clause-rows : goal.returns-in-Start-clause-rows
returns-in-Start-clause-rows c =
    c.start_turn.ensures.rows
    ∙ ap (λ rows. c.args.journal.now.rows ++ rows)
    (sym (start_given _ _ _ _ _ c.requires.playing _ c.requires.near c.events_are_demanded.ensures.starts c.in-Start.is))
