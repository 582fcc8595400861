use Rattle.std.proofs.Common.{◌≡◌, ◌<◌, ◌^◌, map, take}
use Rattle.std.specs.List.{AllByRecursion}
use Rattle.irt_base.specs.declared.plants.App.{App}
use Rattle.toml.specs.View.{view}
use Rattle.plant_print.specs.Written.{app_data}
use Rattle.plant_print.proofs.tables.apps_value.Given as goal

abbrev pub invariant-loop-app : goal.invariant-loop-app
invariant-loop-app l = (map view l.values.items ≡ map (app_data l.plant.devices) (take l.app-index l.plant.apps))
    × AllByRecursion (λ (x : App). x.param < 2 ^ 32) (take l.app-index l.plant.apps)
