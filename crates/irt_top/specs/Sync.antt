-- The command `sync`: its steps, and what comes of a plant's clocks.
use Rattle.std.specs.Prelude.{◌≡◌, ℕ, List, length, Result, Ok, Err}
use Rattle.irt_base.specs.Wiring.{peer_of}
use Rattle.irt_base.specs.declared.plants.Plant.{Plant}
use Rattle.irt_route.specs.Clocks.{ClockTable, IsClockTreeOf, IsCutOff}
use Rattle.irt_steps.specs.Steps.{Ending, ending, Steps, asks, after, judged}
use Rattle.sync_world.specs.Report.{report_lines, report_text}
use Rattle.irt_top.specs.Lines.{no_clock_line}
use Rattle.irt_top.specs.PlantFile.{plant_steps, name_of}

-- what is said of a plant's clocks over so many cycles, by a seed
pub record IsReportText (plant : Plant) (cycles seed : ℕ) (text : List ℕ) : Type 0 where
  pub tree : ClockTable
  pub is_tree : IsClockTreeOf plant tree
  pub says : text ≡ report_text plant (report_lines seed plant tree cycles)

-- no walk leads to this device from device 0, and to all lesser ones there is one
abbrev pub IsNoClock : Plant → ℕ → Type 0
IsNoClock plant device = IsCutOff (peer_of plant) (length plant.devices) device

pub data Reporting : Type 0 where
  no_clock : ℕ → Reporting
  reported : List ℕ → Reporting

abbrev pub IsReporting : Plant → ℕ → ℕ → Reporting → Type 0
IsReporting plant cycles seed (no_clock device) = IsNoClock plant device
IsReporting plant cycles seed (reported text) = IsReportText plant cycles seed text

abbrev pub reporting_answer : Plant → Reporting → Result (List ℕ) Ending
reporting_answer plant (no_clock device) = Err (ending 6 (no_clock_line (name_of plant device)))
reporting_answer plant (reported text) = Ok text

abbrev pub report_steps : ℕ → ℕ → Plant → Steps (List ℕ)
report_steps cycles seed plant =
    asks (IsReporting plant cycles seed) (λ found. judged (reporting_answer plant found))

abbrev pub sync_steps : List ℕ → ℕ → ℕ → Steps (List ℕ)
sync_steps name cycles seed = after (plant_steps name) (report_steps cycles seed)
