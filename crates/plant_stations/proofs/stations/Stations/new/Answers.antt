use Rattle.std.proofs.Common.{List, subst}
use Rattle.irt_base.specs.declared.plants.App.{App}
use Rattle.irt_base.specs.declared.plants.Demand.{Demand}
use Rattle.plant_stations.specs.Whole.{AreNewConsumers, HaveRoom}
use Rattle.plant_stations.proofs.Begun.{stations_made, begun_as, in_first}
use Rattle.plant_stations.proofs.stations.Stations.new.Goals as goal

pub invariant_of-result : goal.invariant_of-result
invariant_of-result c =
    let made = subst (λ (apps : List App). AreNewConsumers apps c.args.bundles.now c.in_ok-receivers.field-0.items) c.as_slice.ensures c.in_ok-receivers.ensures in
    let room = subst (λ (demands : List Demand). HaveRoom demands c.in_ok-frames.field-0) c.as_slice-2.ensures c.in_ok-frames.ensures in
    stations_made c.args.plant.now c.args.bundles.now c.requires.plan c.in_ok-deep_copy.field-0 c.in_ok-copy_items.field-0 c.in_ok-senders.field-0.items
    c.in_ok-receivers.field-0.items c.in_ok-frames.field-0 c.in_ok-deep_copy.ensures c.in_ok-copy_items.ensures made
    c.requires.accepted c.in_ok-senders.ensures room

pub returns-clause-begun : goal.returns-clause-begun
returns-clause-begun c =
    let made = subst (λ (apps : List App). AreNewConsumers apps c.args.bundles.now c.in_ok-receivers.field-0.items) c.as_slice.ensures c.in_ok-receivers.ensures in
    begun_as c.args.plant.now c.args.bundles.now c.requires.plan c.in_ok-deep_copy.field-0 c.in_ok-copy_items.field-0 c.in_ok-senders.field-0.items
    c.in_ok-receivers.field-0.items c.in_ok-frames.field-0 c.in_ok-deep_copy.ensures c.in_ok-copy_items.ensures made

pub returns-clause-cycle : goal.returns-clause-cycle
returns-clause-cycle c =
    let made = subst (λ (apps : List App). AreNewConsumers apps c.args.bundles.now c.in_ok-receivers.field-0.items) c.as_slice.ensures c.in_ok-receivers.ensures in
    in_first c.args.plant.now c.args.bundles.now c.requires.plan c.in_ok-receivers.field-0.items c.in_ok-frames.field-0 made
