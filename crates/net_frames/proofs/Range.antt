-- A row that fits is in range.
use Rattle.std.proofs.Common.{List, [], ◌∷◌, All}
use Rattle.std.proofs.lemmas.List.Elements.{All-nil, All-cons, All-head}
use Rattle.irt_base.specs.declared.blocks.Bundle.{Bundle}
use Rattle.irt_base.specs.declared.plants.Plant.{Plant}
use Rattle.plan_rules.specs.Plan.{setup_of}
use Rattle.plan_rules.specs.Way.{IsInRange}
use Rattle.irt_world.specs.Rows.{Fits, IsRowOf, world_row, world_rows}
use Rattle.irt_world.specs.declared.rows.Row.{Row}
use Rattle.irt_world.specs.declared.rows.World.{World}

abbrev pub AreInRange : Type 0
AreInRange = (plant : Plant) (bundles : List Bundle) (world : World) → Fits plant bundles world → All (IsInRange (setup_of plant bundles)) (world_rows plant bundles world)

pub row_in_range : AreInRange → (plant : Plant) (bundles : List Bundle) (row : Row) → IsRowOf plant bundles row → IsInRange (setup_of plant bundles) (world_row plant bundles row)
row_in_range law plant bundles row fits =
    All-head (IsInRange (setup_of plant bundles)) (world_row plant bundles row) []
    (law plant bundles (record { rows = row ∷ [] }) (All-cons (IsRowOf plant bundles) row [] fits (All-nil (IsRowOf plant bundles))))
