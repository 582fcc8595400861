use Rattle.std.proofs.Common.{refl, sym, ◌∙◌, subst, arith}
use Rattle.std.proofs.lemmas.Option.{same_Some}
use Rattle.irt_base.specs.declared.blocks.Entry.{Entry}
use Rattle.irt_base.specs.declared.plants.Demand.{Demand}
use Rattle.plant_rules.specs.Meets.{IsDemand}
use Rattle.fit_rules.specs.Order.{parents_of}
use Rattle.fit_rules.specs.Shape.{IsOn, IsEntryOf}
use Rattle.frame_ways.proofs.Lists.{each_at, item_read}
use Rattle.frame_ways.proofs.Made.{off_tree, made_entry}
use Rattle.frame_ways.proofs.entries.entry_at.Goals as goal

pub returns-in_default : goal.returns-in_default
returns-in_default c =
    λ d is.
    let plant = c.args.plant.now in
    let parents = parents_of c.args.routes.now c.args.number in
    let x = c.index-as_slice-from.result in
    let item = item_read plant.demands c.as_slice.result.now c.from.result c.args.number x c.as_slice.ensures c.from.ensures c.requires.there c.index-as_slice-from.is in
    subst (λ (y : Demand). ¬ IsOn y parents c.args.device.0) (same_Some x d (sym item ∙ is))
    (off_tree plant parents x c.args.index.now c.requires.routes.rules c.requires.index (c.ways_are_one.ensures.mutual plant c.requires.routes.rules)
    (c.parents_of_trees.ensures.start _ x.provider.0 x.consumers) (c.requires.routes.trees c.args.number x item)
    (each_at (IsDemand plant) plant.demands c.args.number x c.requires.routes.rules.demands item) c.args.device.0 (sym c.rx_port_of.ensures ∙ c.in_default.is))

pub returns : goal.returns
returns c =
    λ d is.
    let plant = c.args.plant.now in
    let parents = parents_of c.args.routes.now c.args.number in
    let x = c.index-as_slice-from.result in
    let item = item_read plant.demands c.as_slice.result.now c.from.result c.args.number x c.as_slice.ensures c.from.ensures c.requires.there c.index-as_slice-from.is in
    let made = made_entry plant parents x c.args.index.now c.requires.routes.rules c.requires.index (c.ways_are_one.ensures.mutual plant c.requires.routes.rules)
    (c.parents_of_trees.ensures.start _ x.provider.0 x.consumers) (c.requires.routes.trees c.args.number x item)
    (each_at (IsDemand plant) plant.demands c.args.number x c.requires.routes.rules.demands item) c.args.device.0 c.in-Some.rx_port c.tx_bits.result c.consumes-kept.result
    (sym c.rx_port_of.ensures ∙ c.in-Some.is) c.consumes-kept.ensures c.tx_bits.ensures (omega arith) in
    let e : Entry = record { send_offset = 0; data_length = x.length; ratio = 1; phase = 1; frame = x.frame; rx_port = c.in-Some.rx_port; tx = c.tx_bits.result } in
    (subst (λ (y : Demand). IsEntryOf plant parents y 1 1 c.args.device.0 e) (same_Some x d (sym item ∙ is)) made, refl)
