use Rattle.fit_rules.specs.Blocks.{IsGreatest}
use Rattle.plan_schedule.specs.Greatest.{IsAnyBelow, IsDeviceBegin}
use Rattle.plan_schedule.proofs.red.red_end.Given as goal

abbrev pub invariant-loop-bundle : goal.invariant-loop-bundle
invariant-loop-bundle l = IsGreatest (IsAnyBelow (IsDeviceBegin l.bundles) l.bundle-index) l.end
