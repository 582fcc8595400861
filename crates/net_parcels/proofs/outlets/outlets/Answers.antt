use Rattle.std.proofs.Common.{◌∙◌, ap, arith, length, refl}
use Rattle.parcel_rules.specs.Cycle.{all_ports}
use Rattle.net_parcels.proofs.Placing.{placed_next, all_placed}
use Rattle.net_parcels.proofs.outlets.outlets.Goals as goal

pub loop-place-preserved : goal.loop-place-preserved
loop-place-preserved c =
    placed_next c.args.site.now.plant _ c.as_slice.result.now c.loop-place.place _ _ _ (c.in_ok-ports.ensures ∙ ap all_ports c.plant.ensures) c.as_slice.ensures
    c.port_at-at.ensures c.far_place-far.ensures c.in_ok-push.ensures.items c.loop-place.invariant

pub returns : goal.returns
returns c =
    let count = ap length (c.in_ok-ports.ensures ∙ ap all_ports c.plant.ensures) in
    let end = c.len-place-end.ensures in
    let over = c.loop-place-test.false in
    all_placed c.args.site.now.plant (all_ports c.args.site.now.plant) c.loop-place.place c.loop-place.outlets.items c.loop-place.invariant (omega arith) refl
