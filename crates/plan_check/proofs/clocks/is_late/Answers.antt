use Rattle.plan_check.proofs.ClockBreaks.{cycles_fit}
use Rattle.plan_check.proofs.clocks.is_late.Goals as goal

pub budget-off-requires : goal.budget-off-requires
budget-off-requires c = record {
  own = c.requires.tree;
  sends = (cycles_fit c.args.plant.now c.args.bundles.now 0 c.bundle_at-first.result.now c.requires.plan c.requires.headers c.bundle_at-first.ensures).0;
  timeouts = (cycles_fit c.args.plant.now c.args.bundles.now c.args.device c.bundle_at-own.result.now c.requires.plan c.requires.headers c.bundle_at-own.ensures).1;
}
