use Rattle.std.proofs.Common.{◌∙◌, ap, sym, subst}
use Rattle.cycle_events.specs.declared.events.Event.{Event}
use Rattle.net_begin.specs.Clocks.{begin_of}
use Rattle.switch_events.specs.Answered.{IsAnswer}
use Rattle.net_starts.specs.Released.{IsSmallTime}
use Rattle.net_turns.specs.Bytes.{bytes_of}
use Rattle.net_frames.specs.Playing.{play_by}
use Rattle.net_frames.proofs.Answering.{answered, device_below, number_below, switch_at}
use Rattle.net_frames.proofs.Times.{begin_small, near_small}
use Rattle.net_frames.proofs.answers.answer_to.Goals as goal

pub bytes-bytes-requires : goal.bytes-bytes-requires
bytes-bytes-requires c =
    number_below _ _ _ _ _ c.requires.playing _ c.requires.what c.requires.near c.events_are_demanded.ensures.demanded
    c.demand_number.result c.demand_number.ensures

pub bounds-switches-from : goal.bounds-switches-from
bounds-switches-from c =
    device_below _ _ _ _ _ c.requires.playing _ c.requires.what c.requires.near c.events_are_demanded.ensures.ports
    c.from.result c.from.ensures

pub answer_from-requires-clause-valid : goal.answer_from-requires-clause-valid
answer_from-requires-clause-valid c =
    (switch_at _ _ _ _ _ c.requires.playing _ c.requires.what c.requires.near c.events_are_demanded.ensures.ports
    c.from.result c.from.ensures c.index-switches-from.result c.index-switches-from.is).1

pub answer_from-requires-clause-port : goal.answer_from-requires-clause-port
answer_from-requires-clause-port c =
    (switch_at _ _ _ _ _ c.requires.playing _ c.requires.what c.requires.near c.events_are_demanded.ensures.ports
    c.from.result c.from.ensures c.index-switches-from.result c.index-switches-from.is).2

pub answer_from-requires-clause-arrival : goal.answer_from-requires-clause-arrival
answer_from-requires-clause-arrival c =
    near_small c.args.site.now.plant c.requires.playing.plan.plan.rules c.args.k c.requires.playing.run c.args.arrival.at c.requires.near.near

pub answer_from-requires-clause-begin : goal.answer_from-requires-clause-begin
answer_from-requires-clause-begin c =
    subst (IsSmallTime 58) (sym (ap (λ (e : Event). e.at) c.begin_event-begin.ensures.value ∙ ap (λ plant. begin_of plant c.args.row.now c.args.k c.args.arrival.device.0) c.plant.ensures))
    (begin_small c.args.site.now.plant c.requires.playing.plan.plan.rules c.args.k c.requires.playing.run c.args.row.now c.requires.playing.plan.fits.errors c.args.arrival.device.0)

pub returns-clause-answer : goal.returns-clause-answer
returns-clause-answer c =
    let (held, valid, has) = switch_at _ _ _ _ _ c.requires.playing _ c.requires.what c.requires.near
    c.events_are_demanded.ensures.ports c.from.result c.from.ensures c.index-switches-from.result c.index-switches-from.is in
    subst (IsAnswer (play_by c.args.site.now.plant c.args.switches.now c.args.row.now c.args.k) c.args.arrival (bytes_of c.args.site.now.plant c.args.arrival.frame.0)) (sym c.answer_from.ensures.answer)
    (answered _ _ _ _ _ c.requires.playing _ c.requires.what c.requires.near
    c.events_are_demanded.ensures.demanded c.answers_are_events.ensures.answers c.demand_number.result c.bytes-bytes.result.now c.index-switches-from.result c.begin_event-begin.result.at c.bridge-bridge.result
    c.demand_number.ensures c.bytes-bytes.ensures held (ap (λ (e : Event). e.at) c.begin_event-begin.ensures.value ∙ ap (λ plant. begin_of plant c.args.row.now c.args.k c.args.arrival.device.0) c.plant.ensures) c.bridge-bridge.ensures)
