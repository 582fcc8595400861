-- The command `check`: its steps, and what it tells of a plant's files.
use Rattle.std.specs.Prelude.{ℕ, List, [], Option, Some, None, Result, Ok, Err}
use Rattle.irt_base.specs.declared.blocks.Bundle.{Bundle}
use Rattle.irt_base.specs.declared.plants.Plant.{Plant}
use Rattle.irt_io.specs.Files.{Files}
use Rattle.irt_steps.specs.Steps.{Ending, ending, Steps, asks, after, judged}
use Rattle.plan_check.specs.Verdicts.{IsJudged}
use Rattle.plan_rules.specs.Expected.{IsSafe}
use Rattle.plan_rules.specs.Places.{IsAccepted, IsReject}
use Rattle.plan_rules.specs.declared.place.Reject.{Reject}
use Rattle.irt_top.specs.DeviceFiles.{bundles_steps, AreBundleFiles}
use Rattle.irt_top.specs.Lines.{accept_line, reject_line}
use Rattle.irt_top.specs.PlantFile.{plant_steps, name_of, IsPlantFile}

-- ---- steps

abbrev pub rejected : Plant → Reject → Ending
rejected plant r =
    ending 8 (reject_line r.rule (name_of plant r.place.device.0) r.place.port r.place.frame r.place.other)

abbrev pub verdict_answer : Plant → Option Reject → Result (List ℕ) Ending
verdict_answer plant None = Ok accept_line
verdict_answer plant (Some r) = Err (rejected plant r)

abbrev pub verdict_steps : Plant → List Bundle → Steps (List ℕ)
verdict_steps plant bundles = asks (IsJudged plant bundles) (λ found. judged (verdict_answer plant found))

abbrev pub blocks_steps : Plant → Steps (List ℕ)
blocks_steps plant = after (bundles_steps plant.devices []) (verdict_steps plant)

abbrev pub check_steps : List ℕ → Steps (List ℕ)
check_steps name = after (plant_steps name) blocks_steps

-- ---- what the files are

-- a plant's file, and the files of its devices
pub record ArePlanFiles (files : Option Files) (name : List ℕ) (plant : Plant) (bundles : List Bundle) : Type 0 where
  pub plant_file : IsPlantFile files name plant
  pub device_files : AreBundleFiles files plant.devices bundles

-- the rules hold for the blocks of a plant's devices
pub record IsAcceptedPlan (files : Option Files) (name : List ℕ) : Type 0 where
  pub plant : Plant
  pub bundles : List Bundle
  pub are : ArePlanFiles files name plant bundles
  pub accepted : IsAccepted plant bundles

-- a rule fails for them: the first one, at its least place
pub record IsRejectedPlan (files : Option Files) (name : List ℕ) (plant : Plant) (reject : Reject) : Type 0 where
  pub bundles : List Bundle
  pub are : ArePlanFiles files name plant bundles
  pub rejects : IsReject plant bundles reject

-- Over every table of clock errors, bridge delays and cut links no two frames of the plan occupy a link direction at
-- once, none meets what is left to parcels, every delivery comes by its planned time, a device in step drops nothing,
-- and each due frame reaches exactly its receivers.
pub record IsSafePlan (files : Option Files) (name : List ℕ) : Type 0 where
  pub plant : Plant
  pub bundles : List Bundle
  pub are : ArePlanFiles files name plant bundles
  pub safe : IsSafe plant bundles
