use Rattle.std.proofs.Common.{◌≡◌, map, take}
use Rattle.iso_app.specs.Kinds.{kind_of}
use Rattle.plan_run.proofs.run.kinds_of.Given as goal

abbrev pub invariant-loop-app : goal.invariant-loop-app
invariant-loop-app l = l.kinds ≡ map kind_of (take l.app-index l.apps)
