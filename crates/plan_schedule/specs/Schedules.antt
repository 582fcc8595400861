-- When the frames of a plan are sent, and by when their receivers have them.
use Rattle.std.specs.Prelude.{◌≡◌, ◌<◌, ℕ, List, Some, AllPairs, Contains}
use Rattle.irt_base.specs.declared.blocks.Bundle.{Bundle}
use Rattle.irt_base.specs.declared.plants.Demand.{Demand}
use Rattle.irt_base.specs.declared.plants.Plant.{Plant}
use Rattle.plan_rules.specs.Plan.{setup_of}
use Rattle.plan_rules.specs.Tree.{demand_of}
use Rattle.plan_rules.specs.Way.{Setup}
use Rattle.fit_rules.specs.Printed.{IsSchedule}
use Rattle.plan_schedule.specs.declared.frames.Schedule.{Schedule}

-- the schedule of the demand that asks for its frame
pub record IsScheduleOf (setup : Setup) (s : Schedule) : Type 0 where
  pub demand : Demand
  pub asked : demand_of setup.plant s.frame.0 ≡ Some demand
  pub is : IsSchedule setup demand s.ratio s.phase s.planned

-- One for each demand, by ascending FrameID.
pub record AreSchedules (plant : Plant) (bundles : List Bundle) (schedules : List Schedule) : Type 0 where
  pub each : (s : Schedule) → Contains schedules s → IsScheduleOf (setup_of plant bundles) s
  pub all : (frame : ℕ) (demand : Demand) → demand_of plant frame ≡ Some demand →
      (s : Schedule) × Contains schedules s × (s.frame.0 ≡ frame)
  pub ascending : AllPairs (λ (s t : Schedule). s.frame.0 < t.frame.0) schedules
