use Rattle.std.proofs.Common.{arith}
use Rattle.plan_rules.specs.Plan.{setup_of}
use Rattle.way_rules.proofs.OffsetTests.{forwards-from, starts_late-from}
use Rattle.way_rules.proofs.offsets.LateOffsetEntryRule.holds.Goals as goal

pub returns : goal.returns
returns c =
    let plant = c.args.plant.now in
    let bundles = c.args._bundles.now in
    let p = c.requires.placed in (
      λ is. forwards-from plant bundles c.args.device.0 c.args._port.0 c.args.entry c.args.way
          (c.ways_are_one.ensures.parents (setup_of plant bundles) p.plan.rules) (c.ways_are_one.ensures.windows (setup_of plant bundles) p.plan.rules)
          p (c.starts_late.ensures.0 is),
      λ holds. c.starts_late.ensures.1 (starts_late-from plant bundles c.args.device.0 c.args._port.0 c.args.entry c.args.way p
          (omega (arith, c.if-entry-eq0.false)) (c.is_absolute.ensures.0 c.if-not-is_absolute.false) (c.leaves.ensures.0 c.if-not-leaves.false) holds),
    )
