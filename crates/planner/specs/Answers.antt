-- What planning answers.
use Rattle.std.specs.Prelude.{◌≡◌, List, Result, Ok, Err, ⊤}
use Rattle.irt_base.specs.declared.blocks.Bundle.{Bundle}
use Rattle.irt_base.specs.declared.numbers.FrameId.{FrameId}
use Rattle.irt_base.specs.declared.plants.Plant.{Plant}
use Rattle.irt_route.specs.Routes.{RouteTables}
use Rattle.fit_rules.specs.Order.{IsOverrun}
use Rattle.planner.specs.declared.fault.PlanFault.{PlanFault}
use Rattle.planner.specs.declared.fault.PlanFault.TheVariants as faults

-- why a plant has no bundles
abbrev pub IsPlanFault : Plant → RouteTables → PlanFault → Type 0
IsPlanFault plant routes faults.NoMemory = ⊤
IsPlanFault plant routes (faults.Overrun frame) = IsOverrun plant routes frame

-- these bundles, if memory lasts
abbrev pub IsAnswer : List Bundle → Result (List Bundle) PlanFault → Type 0
IsAnswer bundles (Ok answer) = answer ≡ bundles
IsAnswer bundles (Err fault) = fault ≡ faults.NoMemory

-- an overrun at this frame, if memory lasts
abbrev pub IsOverrunAnswer : FrameId → Result (List Bundle) PlanFault → Type 0
IsOverrunAnswer frame (Ok answer) = ⊥
IsOverrunAnswer frame (Err faults.NoMemory) = ⊤
IsOverrunAnswer frame (Err (faults.Overrun other)) = other ≡ frame
