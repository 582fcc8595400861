use Rattle.std.proofs.Common.{◌≡◌, length, sym, ◌∙◌, subst, arith}
use Rattle.std.proofs.lemmas.List.{length_push}
use Rattle.std.proofs.lemmas.Option.{same_Some}
use Rattle.irt_base.specs.declared.plants.Demand.{Demand}
use Rattle.plant_rules.specs.Meets.{IsDemand}
use Rattle.fit_rules.specs.Order.{parents_of}
use Rattle.frame_ways.specs.Entries.{IsBase, IsTreeEntryAt}
use Rattle.frame_ways.proofs.Lists.{each_at, item_read}
use Rattle.frame_ways.proofs.Made.{base_made, each_more}
use Rattle.frame_ways.proofs.entries.base_plan.Goals as goal

pub loop-device-preserved : goal.loop-device-preserved
loop-device-preserved c = rw c.in_ok-push.ensures.ok (record {
  count = omega (arith, length_push c.loop-device.entries c.entry_at.result);
  each = λ d is. each_more (IsTreeEntryAt c.args.plant.now (parents_of c.args.routes.now c.args.number) d) c.loop-device.entries c.loop-device.device c.entry_at.result
      c.loop-device.invariant.count (c.loop-device.invariant.each d is) (c.entry_at.ensures d is);
})

pub returns : goal.returns
returns c =
    λ d is.
    let plant = c.args.plant.now in
    let parents = parents_of c.args.routes.now c.args.number in
    let x = c.index-as_slice-from.result in
    let item = item_read plant.demands c.as_slice.result.now c.from.result c.args.number x c.as_slice.ensures c.from.ensures c.requires.there c.index-as_slice-from.is in
    let same = same_Some x d (sym item ∙ is) in
    let all : c.loop-device.device ≡ length plant.devices = omega arith in
    subst (λ (y : Demand). IsBase plant parents d (record { frame = y.frame; entries = c.loop-device.entries })) (sym (sym c.index-as_slice-from.is ∙ same))
    (base_made plant parents d c.args.index.now c.requires.index (c.requires.routes.trees c.args.number d is)
    (each_at (IsDemand plant) plant.demands c.args.number d c.requires.routes.rules.demands is) c.loop-device.entries (c.loop-device.invariant.count ∙ all)
    (λ k less. c.loop-device.invariant.each d is k (omega arith)))
