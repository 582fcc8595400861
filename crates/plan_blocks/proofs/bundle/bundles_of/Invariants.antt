use Rattle.plan_blocks.specs.Bundles.{AreBundlesBelow}
use Rattle.plan_blocks.proofs.bundle.bundles_of.Given as goal

abbrev pub invariant-loop-place : goal.invariant-loop-place
invariant-loop-place l = AreBundlesBelow l.plant l.plans l.tx l.rx l.place l.bundles
