use Rattle.std.proofs.Common.{sym, subst}
use Rattle.plan_rules.specs.Periods.{IsRedFrame}
use Rattle.plan_rules.specs.Places.{IsLeastOf, IsOf}
use Rattle.plan_rules.specs.declared.place.Place.{Place}
use Rattle.block_rules.proofs.Least.{frames_hold, frame_breaks, bundle_valid}
use Rattle.block_rules.proofs.frames.frame_break.Goals as goal

pub returns-in-None : goal.returns-in-None
returns-in-None c =
    frames_hold c.args.plant.now c.args.bundles.now c.bundle_at-own.result.now c.args.device c.bundle_at-own.ensures c.as_slice.result.now c.as_slice.ensures
    c.in-None.ensures

pub returns-in-Some : goal.returns-in-Some
returns-in-Some c =
    let valid = bundle_valid c.args.plant.now c.args.bundles.now c.args.device c.bundle_at-own.result.now c.requires.plan c.bundle_at-own.ensures in
    subst (λ (at : Place). IsLeastOf (IsOf c.args.device) (IsRedFrame c.args.plant.now c.args.bundles.now) at) (sym c.new.ensures)
    (frame_breaks c.args.plant.now c.args.bundles.now c.bundle_at-own.result.now c.args.device c.bundle_at-own.ensures c.as_slice.result.now c.in-Some.frame
    c.as_slice.ensures valid.frames.ascending c.in-Some.ensures)
