-- What is printed of a plan.
use Rattle.std.specs.Prelude.{◌≡◌, ℕ, List, [], ◌∷◌, ◌++◌, codes, decimal}
use Rattle.irt_base.specs.Text.{frame_text}
use Rattle.irt_base.specs.declared.blocks.Bundle.{Bundle}
use Rattle.irt_base.specs.declared.plants.Plant.{Plant}
use Rattle.fit_rules.specs.Printed.{IsRedEnd}
use Rattle.plan_schedule.specs.Schedules.{AreSchedules}
use Rattle.plan_schedule.specs.declared.frames.Schedule.{Schedule}

-- a frame with its ratio, its phase and its last planned time: `0x0100 1 1 8520`
abbrev pub schedule_line : Schedule → List ℕ
schedule_line s =
    frame_text s.frame.0 ++ 32 ∷ [] ++ decimal s.ratio ++ 32 ∷ [] ++ decimal s.phase ++ 32 ∷ [] ++ decimal s.planned ++ 10 ∷ []

-- the end of the red periods: `red 6720`
abbrev pub red_line : ℕ → List ℕ
red_line red = codes "red " ++ decimal red ++ 10 ∷ []

-- a line for each frame, and then the end of the red periods
abbrev pub plan_text : List Schedule → ℕ → List ℕ
plan_text [] red = red_line red
plan_text (s ∷ more) red = schedule_line s ++ plan_text more red

-- the text of a plan
pub record IsPlanText (plant : Plant) (bundles : List Bundle) (text : List ℕ) : Type 0 where
  pub schedules : List Schedule
  pub red : ℕ
  pub are : AreSchedules plant bundles schedules
  pub ends : IsRedEnd bundles red
  pub is : text ≡ plan_text schedules red
