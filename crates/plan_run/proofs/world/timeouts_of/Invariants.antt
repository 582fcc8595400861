use Rattle.std.proofs.Common.{◌≡◌, take}
use Rattle.plan_run.specs.World.{timeouts_of}
use Rattle.plan_run.proofs.world.timeouts_of.Given as goal

abbrev pub invariant-loop-bundle : goal.invariant-loop-bundle
invariant-loop-bundle l = l.made ≡ timeouts_of (take l.bundle-index l.bundles)
