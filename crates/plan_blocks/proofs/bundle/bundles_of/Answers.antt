use Rattle.std.proofs.Common.{◌≡◌, ℕ, length, refl, ap, subst, arith}
use Rattle.std.proofs.lemmas.Option.{slice_get_read}
use Rattle.irt_base.specs.declared.blocks.FrameBlock.{FrameBlock}
use Rattle.plan_blocks.specs.Bundles.{AreBundlesBelow}
use Rattle.plan_blocks.proofs.Merged.{bundles_of_plans}
use Rattle.plan_blocks.proofs.Ports.{one_bundle}
use Rattle.plan_blocks.proofs.bundle.bundles_of.Goals as goal

pub loop-place-preserved : goal.loop-place-preserved
loop-place-preserved c =
    let there = slice_get_read c.as_slice-device-items.result.now _ c.loop-place.place c.device-item.result refl c.loop-place-test.true c.device-item.is in
    let held = rw c.as_slice-device-items.ensures at there in
    rw c.in_ok-push.ensures.ok (one_bundle c.args.plant.now c.args.plans.now c.args.tx.now c.args.rx.now c.loop-place.place c.loop-place.bundles
    c.device-item.result _ held c.loop-place.invariant (record {
      sync = c.in_ok-sync_of.ensures;
      slot = refl;
      subslot = refl;
      global = c.in_ok-global_of.ensures;
      mode = ap (λ (b : FrameBlock). b.relative) c.in_ok-frames_of.ensures;
      entries = ap (λ (b : FrameBlock). b.entries) c.in_ok-frames_of.ensures;
      periods = rw c.len.ensures at c.in_ok-periods_of.ensures;
    }))

all_devices : (c : goal.After-loop-place) → c.loop-place.place ≡ length c.args.plant.now.devices
all_devices c =
    let long = rw c.as_slice-device-items.ensures at c.loop-place-test.false in
    let short = rw c.as_slice-device-items.ensures at c.loop-place.auto.place-end in
    omega (arith, long, short)

pub returns-clause-plans : goal.returns-clause-plans
returns-clause-plans c = λ last by.
    bundles_of_plans c.args.plant.now c.args.plans.now c.args.tx.now c.args.rx.now last _ c.requires.devices c.requires.ports by
    (subst (λ (n : ℕ). AreBundlesBelow c.args.plant.now c.args.plans.now c.args.tx.now c.args.rx.now n c.loop-place.bundles) (all_devices c) c.loop-place.invariant)
