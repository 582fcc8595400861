use Rattle.iso_plant.proofs.Beginning.{few_words, on_devices}
use Rattle.iso_plant.proofs.begin.new_tables.Goals as goal

pub new_histories-requires-clause-bundles : goal.new_histories-requires-clause-bundles
new_histories-requires-clause-bundles c = c.requires.plan.blocks

pub new_histories-requires-clause-devices : goal.new_histories-requires-clause-devices
new_histories-requires-clause-devices c = on_devices c.args.plant.now c.args.bundles.now c.requires.plan

pub new_histories-requires-clause-few : goal.new_histories-requires-clause-few
new_histories-requires-clause-few c =
    few_words c.args.plant.now c.args.bundles.now c.requires.plan c.requires.accepted
    c.stations_fit_exchanges.ensures.outputs c.stations_fit_exchanges.ensures.inputs

pub zero_outputs-requires : goal.zero_outputs-requires
zero_outputs-requires c = c.requires.plan.blocks
