use Rattle.std.proofs.Common.{◌∙◌, ap, get_or}
use Rattle.plan_schedule.proofs.PlannedLemmas.{way_here}
use Rattle.plan_schedule.proofs.planned.way_of.Goals as goal

pub returns : goal.returns
returns c e stands =
    way_here c.args.net.now.plant.now c.args.net.now.bundles.now c.args.ways.now c.as_slice.result.now _ c.args.device.0 c.args.place _ e c.requires.ways
    (c.as_slice.ensures ∙ c.index-ways-from.is ∙ ap (λ n. get_or c.args.ways.now n c.index-ways-from.result) c.from.ensures) stands
