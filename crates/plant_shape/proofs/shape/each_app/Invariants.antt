use Rattle.std.proofs.Common.{◌≡◌, drop}
use Rattle.toml.specs.View.{items_view}
use Rattle.plant_shape.specs.Shape.{each_item, rest_of, app_of}
use Rattle.plant_shape.proofs.shape.each_app.Given as goal

abbrev pub invariant-loop-value : goal.invariant-loop-value
invariant-loop-value l = rest_of app_of l.apps (items_view (drop l.value-index l.array.items)) ≡ each_item app_of (items_view l.array.items)
