use Rattle.std.proofs.Common.{ap, length, sym, ◌∙◌}
use Rattle.iso_plant.proofs.Apps.{written_over}
use Rattle.iso_plant.proofs.Handing.{in_run, kept, next_of, play_ready, publish_ready, takes_ready}
use Rattle.iso_plant.proofs.step.play_step.Goals as goal

pub take_all-requires : goal.take_all-requires
take_all-requires g c = takes_ready _ _ c.requires _ c.as_slice.ensures _ c.as_mut_slice.ensures.value _ c.as_mut_slice-2.ensures.value

pub play_cycle-requires-clause-run : goal.play_cycle-requires-clause-run
play_cycle-requires-clause-run g c = in_run _ _ c.requires

pub play_cycle-requires-clause-ready : goal.play_cycle-requires-clause-ready
play_cycle-requires-clause-ready g c =
    let sent = kept _ _ _ _ c.as_slice-2.result.now c.args.outputs.now.ok.0 c.as_mut_slice-2.ensures.value c.take_all.ensures.places c.as_slice-2.ensures.value in
    play_ready _ _ c.requires _ c.as_slice.ensures _ c.as_mut_slice.ensures.value _ c.as_mut_slice-2.ensures.value
    c.stations_rest_on_done_cycles.ensures c.fitting_worlds_are_in_range.ensures _ _ _ c.take_all.ensures _ c.deref.ensures _ c.index-deref-done.is
    _ sent _ c.as_mut_slice-3.ensures.value

pub publish_all-requires : goal.publish_all-requires
publish_all-requires g c =
    let sent = kept _ _ _ _ c.as_slice-2.result.now c.args.outputs.now.ok.0 c.as_mut_slice-2.ensures.value c.take_all.ensures.places c.as_slice-2.ensures.value in
    let took = kept _ _ _ _ c.as_mut_slice-4.result.now c.args.histories.now.ok.0 c.as_mut_slice.ensures.value c.take_all.ensures.count c.as_mut_slice-4.ensures.value in
    let shown = kept _ _ _ _ c.as_slice-3.result.now c.args.images.now.ok.0 c.as_mut_slice-3.ensures.value c.play_cycle.auto.images c.as_slice-3.ensures.value in
    publish_ready _ _ c.requires _ c.as_slice.ensures _ c.as_mut_slice.ensures.value _ c.as_mut_slice-2.ensures.value
    c.stations_rest_on_done_cycles.ensures c.fitting_worlds_are_in_range.ensures _ _ _ c.take_all.ensures _ c.deref.ensures _ c.index-deref-done.is
    _ sent _ _ _ _ c.play_cycle.ensures.goes_on _ took _ shown

pub returns : goal.returns
returns g c =
    let sent = kept _ _ _ _ c.as_slice-2.result.now c.args.outputs.now.ok.0 c.as_mut_slice-2.ensures.value c.take_all.ensures.places c.as_slice-2.ensures.value in
    let took = kept _ _ _ _ c.as_mut_slice-4.result.now c.args.histories.now.ok.0 c.as_mut_slice.ensures.value c.take_all.ensures.count c.as_mut_slice-4.ensures.value in
    let shown = kept _ _ _ _ c.as_slice-3.result.now c.args.images.now.ok.0 c.as_mut_slice-3.ensures.value c.play_cycle.auto.images c.as_slice-3.ensures.value in
    let many = c.publish_all.ensures.count ∙ ap length took ∙ c.take_all.ensures.count ∙ ap length c.as_mut_slice.ensures.value ∙ sym c.args.histories.now.ok.0 in
    next_of _ _ c.requires _ c.as_slice.ensures _ c.as_mut_slice.ensures.value _ c.as_mut_slice-2.ensures.value
    c.stations_rest_on_done_cycles.ensures c.fitting_worlds_are_in_range.ensures _ _ _ c.take_all.ensures _ c.deref.ensures _ c.index-deref-done.is
    _ sent _ _ _ _ c.play_cycle.ensures.goes_on _ took _ shown c.images_rest_on_recent_cycles.ensures.past c.play_cycle.ensures.played
    _ _ c.publish_all.ensures _ _ _ (written_over _ c.publish_all.new.histories _ many) (sym c.as_slice-2.ensures.value) (sym c.as_slice-3.ensures.value)
