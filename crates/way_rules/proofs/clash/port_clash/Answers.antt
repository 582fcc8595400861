use Rattle.plan_rules.specs.Plan.{setup_of}
use Rattle.way_rules.proofs.Clashes.{row_timed, found_as, port_clear, port_clashes}
use Rattle.way_rules.proofs.clash.port_clash.Goals as goal

pub slots_of-requires : goal.slots_of-requires
slots_of-requires c = row_timed c.args.plant.now c.args.bundles.now c.args.ways.now c.args.device.0 _ _ c.requires.plan c.row_of.ensures

pub returns-in-None : goal.returns-in-None
returns-in-None c =
    let plant = c.args.plant.now in
    let bundles = c.args.bundles.now in
    port_clear plant bundles c.args.ways.now c.args.device.0 c.args.port.0 c.row_of.result.0.now c.row_of.result.1.now c.in_ok-slots.slots
    (record {
      plan = c.requires.plan;
      windows = c.ways_are_one.ensures.windows (setup_of plant bundles) c.requires.plan.plan.rules;
      row = c.row_of.ensures;
      slots_of = c.in_ok-slots.ensures;
    })
    (found_as plant.window _ _ _ _ c.as_slice.ensures c.in-None.is c.in_ok-first_clash.ensures.answer)

pub returns : goal.returns
returns c =
    let plant = c.args.plant.now in
    let bundles = c.args.bundles.now in
    port_clashes plant bundles c.args.ways.now c.args.device c.args.port.0 c.row_of.result.0.now c.row_of.result.1.now c.in_ok-slots.slots
    c.in-Some.frame c.in-Some.other
    (record {
      plan = c.requires.plan;
      windows = c.ways_are_one.ensures.windows (setup_of plant bundles) c.requires.plan.plan.rules;
      row = c.row_of.ensures;
      slots_of = c.in_ok-slots.ensures;
    })
    (found_as plant.window _ _ _ _ c.as_slice.ensures c.in-Some.is c.in_ok-first_clash.ensures.answer)
