use Rattle.net_frames.specs.Playing.{play_by}
use Rattle.net_frames.proofs.Running.{IsUnderWay, to_come}
use Rattle.net_frames.proofs.turns.run_queue.Given as goal

abbrev pub invariant-loop-event : goal.invariant-loop-event
invariant-loop-event l = IsUnderWay (play_by l.site.plant l.switches l.row l.k) l.fn.journal l.queue l.journal

abbrev pub decreases-loop-event : goal.decreases-loop-event
decreases-loop-event l = to_come l.queue l.journal
