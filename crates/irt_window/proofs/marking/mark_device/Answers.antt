use Rattle.std.proofs.Common.{arith}
use Rattle.irt_window.proofs.Steps.{next_place, all_places, bundle_at, count_at, entry_there}
use Rattle.irt_window.proofs.marking.mark_device.Goals as goal

pub mark_entry-found-requires-clause-there : goal.mark_entry-found-requires-clause-there
mark_entry-found-requires-clause-there c =
    let bundles = c.args.net.now.bundles.now in
    let b = c.index-net-from.result in
    let is = c.index-net-from.is in
    entry_there c.args.net.now c.args.device.0 c.loop-place.place b
    (bundle_at bundles c.args.device.0 c.from.result b c.from.ensures c.requires.there is)
    (omega (arith, count_at bundles c.from.result c.len-place-end.result b is c.len-place-end.ensures))

pub loop-place-preserved : goal.loop-place-preserved
loop-place-preserved c = record {
  marks = c.mark_entry-found.ensures.marks;
  step = next_place c.args.net.now c.args.device.0 c.loop-place.place c.args.marks.now c.loop-place.marks c.mark_entry-found.new.marks
      c.loop-place.found c.mark_entry-found.result c.loop-place.invariant.step c.mark_entry-found.ensures.step;
}

pub returns-clause-step : goal.returns-clause-step
returns-clause-step c =
    let bundles = c.args.net.now.bundles.now in
    let b = c.index-net-from.result in
    let is = c.index-net-from.is in
    all_places c.args.net.now c.args.device.0 c.loop-place.place b c.args.marks.now c.loop-place.marks c.loop-place.found
    (bundle_at bundles c.args.device.0 c.from.result b c.from.ensures c.requires.there is)
    (omega (arith, count_at bundles c.from.result c.len-place-end.result b is c.len-place-end.ensures)) c.loop-place.invariant.step
