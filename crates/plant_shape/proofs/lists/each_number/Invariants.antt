use Rattle.std.proofs.Common.{◌≡◌, drop}
use Rattle.toml.specs.View.{items_view}
use Rattle.plant_shape.specs.Shape.{each_item, rest_of, number_of}
use Rattle.plant_shape.proofs.lists.each_number.Given as goal

abbrev pub invariant-loop-value : goal.invariant-loop-value
invariant-loop-value l = rest_of number_of l.numbers (items_view (drop l.value-index l.array.items)) ≡ each_item number_of (items_view l.array.items)
