use Rattle.std.proofs.Common.{◌≡◌, map, take}
use Rattle.iso_plant.specs.Made.{begun_history}
use Rattle.plan_rules.specs.Plan.{setup_of}
use Rattle.iso_plant.proofs.made.new_histories.Given as goal

abbrev pub invariant-loop-app : goal.invariant-loop-app
invariant-loop-app l = l.histories.items ≡ map (begun_history (setup_of l.plant l.bundles) l.cycles) (take l.app-index l.apps)
