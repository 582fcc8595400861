-- The command `plan`: its steps, what comes of planning a plant, and what is stored.
use Rattle.std.specs.Prelude.{◌≡◌, ◌≢◌, ℕ, suc, ⊤, List, [], take, Option, Some, None, Result, Ok, Err}
use Rattle.std.specs.List.{AllByRecursion}
use Rattle.irt_base.specs.declared.blocks.Bundle.{Bundle}
use Rattle.irt_base.specs.declared.numbers.FrameId.{FrameId}
use Rattle.irt_base.specs.declared.plants.Device.{Device}
use Rattle.irt_base.specs.declared.plants.Plant.{Plant}
use Rattle.fit_rules.specs.Blocks.{AreFirstFit}
use Rattle.fit_rules.specs.Order.{IsOverrun}
use Rattle.irt_io.specs.Files.{Files}
use Rattle.irt_route.specs.Routes.{RouteTables, IsRoutesOf, IsRouteFault}
use Rattle.irt_route.specs.declared.fault.RouteFault.{RouteFault}
use Rattle.irt_route.specs.declared.fault.RouteFault.TheVariants as faults
use Rattle.irt_steps.specs.Steps.{Ending, ending, Steps, gives, asks, after, judged}
use Rattle.plan_rules.specs.Expected.{IsSafe}
use Rattle.plan_rules.specs.Places.{IsAccepted}
use Rattle.plan_schedule.specs.Text.{IsPlanText}
use Rattle.irt_top.specs.DeviceFiles.{device_file_of, store_steps, AreBundleFiles}
use Rattle.irt_top.specs.Lines.{unreachable_line, no_path_line, overrun_line}
use Rattle.irt_top.specs.PlantFile.{plant_steps, name_of, IsPlantFile}

-- ---- what comes of planning

-- No walk leads to a receiver of a demand, and this is the first one; or all have walks, and this is the first traffic
-- entry without one.
abbrev pub IsNoWalk : Plant → RouteFault → Type 0
IsNoWalk plant faults.NoMemory = ⊥
IsNoWalk plant (faults.Unreachable frame device) = IsRouteFault plant (faults.Unreachable frame device)
IsNoWalk plant (faults.NoPath traffic) = IsRouteFault plant (faults.NoPath traffic)

abbrev pub no_walk_line : Plant → RouteFault → List ℕ
no_walk_line plant faults.NoMemory = []
no_walk_line plant (faults.Unreachable frame device) = unreachable_line frame.0 (name_of plant device.0)
no_walk_line plant (faults.NoPath traffic) = no_path_line traffic

-- first fit overruns at a frame
pub record OverrunsAt (plant : Plant) (frame : FrameId) : Type 0 where
  pub routes : RouteTables
  pub are_routes : IsRoutesOf plant routes
  pub overrun : IsOverrun plant routes frame

-- these are first fit's bundles
pub record ArePlanned (plant : Plant) (bundles : List Bundle) : Type 0 where
  pub routes : RouteTables
  pub are_routes : IsRoutesOf plant routes
  pub first_fit : AreFirstFit plant routes bundles

pub data Planning : Type 0 where
  no_walk : RouteFault → Planning
  overruns : FrameId → Planning
  planned : List Bundle → Planning

abbrev pub IsPlanning : Plant → Planning → Type 0
IsPlanning plant (no_walk fault) = IsNoWalk plant fault
IsPlanning plant (overruns frame) = OverrunsAt plant frame
IsPlanning plant (planned bundles) = ArePlanned plant bundles

-- ---- steps

abbrev pub planning_answer : Plant → Planning → Result (List Bundle) Ending
planning_answer plant (no_walk fault) = Err (ending 6 (no_walk_line plant fault))
planning_answer plant (overruns frame) = Err (ending 9 (overrun_line frame.0))
planning_answer plant (planned bundles) = Ok bundles

abbrev pub planning_steps : Plant → Steps (List Bundle)
planning_steps plant = asks (IsPlanning plant) (λ found. judged (planning_answer plant found))

abbrev pub text_steps : Plant → List Bundle → Steps (List ℕ)
text_steps plant bundles = asks (IsPlanText plant bundles) (λ text. gives text)

-- All files are stored, and then the text is made.
abbrev pub stored_steps : Plant → List Bundle → Steps (List ℕ)
stored_steps plant bundles = after (store_steps plant.devices bundles) (λ done. text_steps plant bundles)

abbrev pub planned_steps : Plant → Steps (List ℕ)
planned_steps plant = after (planning_steps plant) (stored_steps plant)

abbrev pub plan_steps : List ℕ → Steps (List ℕ)
plan_steps name = after (plant_steps name) planned_steps

-- ---- what the files are

-- a name holds after what it held before
abbrev pub HoldsSame : Option Files → Option Files → List ℕ → Type 0
HoldsSame None None name = ⊤
HoldsSame None (Some after) name = ⊥
HoldsSame (Some files) None name = ⊥
HoldsSame (Some files) (Some after) name = after name ≡ files name

-- The files of so many devices were stored, in the devices' order, and hold the spellings of their bundles. The next
-- device's file may hold anything. All other names hold what they held.
pub record AreStoredInOrder (files after : Option Files) (devices : List Device) (bundles : List Bundle) : Type 0 where
  pub count : ℕ
  pub stored : AreBundleFiles after (take count devices) (take count bundles)
  pub others : (name : List ℕ) → AllByRecursion (λ (d : Device). name ≢ device_file_of d.name) (take (suc count) devices) →
      HoldsSame files after name

-- the same of first fit's bundles of the plant that was there before
pub record IsPlanInOrder (files after : Option Files) (name : List ℕ) : Type 0 where
  pub plant : Plant
  pub bundles : List Bundle
  pub plant_file : IsPlantFile files name plant
  pub first_fit : ArePlanned plant bundles
  pub in_order : AreStoredInOrder files after plant.devices bundles

-- The files after the call are those of first fit's bundles of the plant that was there before it, and its rules hold
-- for them: so it is safe over every world.
pub record IsStoredPlan (files after : Option Files) (name : List ℕ) : Type 0 where
  pub plant : Plant
  pub bundles : List Bundle
  pub plant_file : IsPlantFile files name plant
  pub first_fit : ArePlanned plant bundles
  pub device_files : AreBundleFiles after plant.devices bundles
  pub accepted : IsAccepted plant bundles
  pub safe : IsSafe plant bundles
