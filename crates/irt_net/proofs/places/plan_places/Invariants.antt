use Rattle.std.proofs.Common.{◌≡◌, ◌≤◌, ◌*◌, sum_by, take}
use Rattle.irt_base.specs.declared.limits.TheConstants.{MAX_DEMANDS}
use Rattle.irt_net.specs.Places.{bundle_places}
use Rattle.irt_net.proofs.places.plan_places.Given as goal

abbrev pub invariant-loop-bundle : goal.invariant-loop-bundle
invariant-loop-bundle l = (l.most ≡ sum_by bundle_places (take l.bundle-index l.bundles)) × (l.most ≤ l.bundle-index * (8 * MAX_DEMANDS))
