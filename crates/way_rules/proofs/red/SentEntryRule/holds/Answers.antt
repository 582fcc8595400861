use Rattle.std.proofs.Common.{arith}
use Rattle.plan_rules.specs.Plan.{setup_of}
use Rattle.way_rules.proofs.Entries.{held_at}
use Rattle.way_rules.proofs.RedTests.{sent-from, sent-to}
use Rattle.way_rules.proofs.red.SentEntryRule.holds.Goals as goal

pub returns : goal.returns
returns c =
    let plant = c.args.plant.now in
    let bundles = c.args.bundles.now in
    let p = c.requires.placed in
    let held = held_at bundles c.args.device.0 c.from.result c.index-bundles-from.result p.there c.from.ensures in (
      λ is. sent-from plant bundles c.args.device.0 c.args.port.0 _ c.args.entry c.args.way _
          (c.ways_are_one.ensures.windows (setup_of plant bundles) p.plan.rules) p held (omega arith) (c.fits_red.ensures.0 is),
      λ holds. c.fits_red.ensures.1 (sent-to plant bundles c.args.device.0 c.args.port.0 _ c.args.entry c.args.way _ p held
          (c.leaves_by.ensures.0 c.if-not-leaves_by.false) (omega arith) holds),
    )
