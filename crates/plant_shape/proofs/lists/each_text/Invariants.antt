use Rattle.std.proofs.Common.{◌≡◌, drop}
use Rattle.toml.specs.View.{items_view}
use Rattle.toml.specs.Data.{as_str}
use Rattle.plant_shape.specs.Shape.{each_item, rest_of}
use Rattle.plant_shape.proofs.lists.each_text.Given as goal

abbrev pub invariant-loop-value : goal.invariant-loop-value
invariant-loop-value l = rest_of as_str l.texts (items_view (drop l.value-index l.array.items)) ≡ each_item as_str (items_view l.array.items)
