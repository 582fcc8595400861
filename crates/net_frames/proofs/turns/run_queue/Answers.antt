use Rattle.std.proofs.Common.{length, ap}
use Rattle.cycle_events.specs.Run.{RunsBegin, RunsGoOn, TurnsFit, TurnsGiveRows, TurnsHappen}
use Rattle.net_frames.specs.Playing.{play_by}
use Rattle.net_frames.proofs.Demanded.{start_given}
use Rattle.net_frames.proofs.Playing.{in_cycle}
use Rattle.net_frames.proofs.Running.{comes_less, goes_on, has_room, near, under_way}
use Rattle.net_frames.proofs.turns.run_queue.Goals as goal

pub loop-event-init : goal.loop-event-init
loop-event-init c =
    under_way _
    (in_cycle RunsBegin c.runs_go_on.ensures.begin _ _ _ _ _ c.requires.playing) c.args.journal.now c.args.queue.now
    c.requires.started c.requires.queue c.requires.room

pub turn-requires-clause-near : goal.turn-requires-clause-near
turn-requires-clause-near c =
    near _ _ _ c.pop.new.self _ _ c.loop-event.invariant c.in-Some.ensures.taken (in_cycle TurnsHappen c.turns_fit.ensures.happen _ _ _ _ _ c.requires.playing)

pub turn-requires-clause-room : goal.turn-requires-clause-room
turn-requires-clause-room c =
    (has_room _ _ _ c.pop.new.self _ _ c.loop-event.invariant c.in-Some.ensures.taken
    (in_cycle TurnsFit c.turns_fit.ensures.fit _ _ _ _ _ c.requires.playing) c.in-Some.ensures.room).caused

pub turn-requires-clause-space : goal.turn-requires-clause-space
turn-requires-clause-space c =
    (has_room _ _ _ c.pop.new.self _ _ c.loop-event.invariant c.in-Some.ensures.taken
    (in_cycle TurnsFit c.turns_fit.ensures.fit _ _ _ _ _ c.requires.playing) c.in-Some.ensures.room).space

pub loop-event-smaller : goal.loop-event-smaller
loop-event-smaller c =
    comes_less (play_by c.args.site.now.plant c.args.switches.now c.args.row.now c.args.k) c.loop-event.queue c.pop.new.self c.turn.new.queue c.loop-event.journal c.turn.new.journal c.in-Some.event
    (λ what. ap length (start_given _ _ _ _ _ c.requires.playing c.in-Some.event
    (near _ _ _ c.pop.new.self _ _ c.loop-event.invariant c.in-Some.ensures.taken (in_cycle TurnsHappen c.turns_fit.ensures.happen _ _ _ _ _ c.requires.playing))
    c.events_are_demanded.ensures.starts what))
    c.in-Some.ensures.taken c.turn.ensures.caused c.turn.ensures.space

pub loop-event-preserved : goal.loop-event-preserved
loop-event-preserved c =
    goes_on _ _ _ c.pop.new.self _ _ c.loop-event.invariant c.in-Some.ensures.taken
    (in_cycle RunsGoOn c.runs_go_on.ensures.goes_on _ _ _ _ _ c.requires.playing)
    (in_cycle TurnsFit c.turns_fit.ensures.fit _ _ _ _ _ c.requires.playing)
    (in_cycle TurnsGiveRows c.turns_fit.ensures.rows _ _ _ _ _ c.requires.playing)
    c.in-Some.ensures.room c.turn.new.queue c.turn.new.journal c.turn.ensures.caused c.turn.ensures.room c.turn.ensures.rows c.turn.ensures.space
