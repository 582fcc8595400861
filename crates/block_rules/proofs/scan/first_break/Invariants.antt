use Rattle.std.proofs.Common.{◌<◌}
use Rattle.plan_rules.specs.declared.place.Place.{Place}
use Rattle.block_rules.specs.Scanning.{Holds}
use Rattle.block_rules.proofs.scan.first_break.Given as goal

abbrev pub invariant-loop-device : goal.invariant-loop-device
invariant-loop-device l = (at : Place) → at.device.0 < l.device → Holds l.rule l.plant l.bundles at
