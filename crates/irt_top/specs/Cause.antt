-- Why a command ends as it does.
use Rattle.std.specs.Prelude.{◌≡◌, ℕ, true, List, Option, Some, None}
use Rattle.irt_base.specs.Wiring.{peer_of}
use Rattle.irt_base.specs.declared.blocks.Bundle.{Bundle}
use Rattle.irt_base.specs.declared.limits.TheConstants.{DEVICE_FILE}
use Rattle.irt_base.specs.declared.numbers.FrameId.{FrameId}
use Rattle.irt_base.specs.declared.numbers.PortNo.{PortNo}
use Rattle.irt_base.specs.declared.plants.Plant.{Plant}
use Rattle.irt_block.specs.declared.fault.BlockFault.{BlockFault}
use Rattle.irt_io.specs.Files.{Files}
use Rattle.irt_route.specs.Routes.{IsFirstCutTraffic}
use Rattle.irt_route.specs.declared.fault.RouteFault.{RouteFault}
use Rattle.irt_show.specs.Show.{bundle_text}
use Rattle.irt_steps.specs.Lines.{absent_line, long_line}
use Rattle.irt_steps.specs.Steps.{Ending, ending, Holds, IsOver, LoadsNext}
use Rattle.irt_topo.specs.Reading.{PlantRefusal}
use Rattle.irt_words.specs.Commands.{Command, plan, check, gen, show, sync}
use Rattle.irt_world.specs.declared.rows.World.{World}
use Rattle.plan_rules.specs.declared.place.Reject.{Reject}
use Rattle.plan_run.specs.Run.{IsRunText}
use Rattle.plan_run.specs.Size.{is_too_long}
use Rattle.plan_schedule.specs.Text.{IsPlanText}
use Rattle.plant_gen.specs.Generated.{generated_plant}
use Rattle.irt_top.specs.Check.{rejected, IsAcceptedPlan, IsRejectedPlan}
use Rattle.irt_top.specs.Commands.{asked_steps, checked_asked, plant_asked}
use Rattle.irt_top.specs.DeviceFiles.{IsBundleFile, IsMalformed}
use Rattle.irt_top.specs.Gen.{GenAsked, gen_asked, made_plant, IsGenText}
use Rattle.irt_top.specs.Lines.{usage_line, refusal_line, malformed_line, no_clock_line, no_path_line, overrun_line, accept_line, world_line, long_run_line}
use Rattle.irt_top.specs.Plan.{no_walk_line, IsNoWalk, OverrunsAt, ArePlanned}
use Rattle.irt_top.specs.PlantFile.{name_of, IsPlantFile, IsRefusedFile}
use Rattle.irt_top.specs.Run.{RunAsked, run_asked, IsCheckedPlan, IsWalkedPlan, IsSizedPlan, IsRun}
use Rattle.irt_top.specs.Sync.{IsNoClock, IsReportText}
use Rattle.irt_top.specs.World.{by_file, IsWrongHeld}

-- the plant that a command plans: that of a file, or the one that it makes
abbrev pub PlansPlant : Option Files → Option Command → Plant → Type 0
PlansPlant files (Some (plan name)) plant = IsPlantFile files name plant
PlansPlant files (Some (gen seed devices frames name)) plant = plant ≡ generated_plant seed devices frames
PlansPlant files asked plant = ⊥

-- The causes of the ending of what was asked for over these files. A file that the command comes to is the first whose
-- step fails: all its steps before that have succeeded.
pub data IsCauseOf (files : Option Files) (asked : Option Command) : Ending → Type 0 where
  usage : asked ≡ None → IsCauseOf files asked (ending 1 usage_line)
  absent : (name : List ℕ) (limit : ℕ) → LoadsNext (asked_steps asked) files name limit files →
      Holds files name None → IsCauseOf files asked (ending 3 (absent_line name))
  too_long : (name : List ℕ) (limit : ℕ) → LoadsNext (asked_steps asked) files name limit files →
      IsOver files name limit → IsCauseOf files asked (ending 4 (long_line name))
  no_plant : (name : List ℕ) (refusal : PlantRefusal) → plant_asked asked ≡ Some name →
      IsRefusedFile files name refusal → IsCauseOf files asked (ending 5 (refusal_line refusal))
  malformed : (name : List ℕ) (fault : BlockFault) → LoadsNext (asked_steps asked) files name DEVICE_FILE files →
      IsMalformed files name fault → IsCauseOf files asked (ending 7 (malformed_line name fault))
  no_walk : (plant : Plant) (fault : RouteFault) → PlansPlant files asked plant → IsNoWalk plant fault →
      IsCauseOf files asked (ending 6 (no_walk_line plant fault))
  no_clock : (name : List ℕ) (cycles seed : ℕ) (plant : Plant) (device : ℕ) → asked ≡ Some (sync name cycles seed) →
      IsPlantFile files name plant → IsNoClock plant device →
      IsCauseOf files asked (ending 6 (no_clock_line (name_of plant device)))
  no_path : (run : RunAsked) (plant : Plant) (bundles : List Bundle) (traffic : ℕ) → run_asked asked ≡ Some run →
      IsCheckedPlan files run.plant plant bundles → IsFirstCutTraffic (peer_of plant) plant.traffic traffic →
      IsCauseOf files asked (ending 6 (no_path_line traffic))
  rejects : (name : List ℕ) (plant : Plant) (reject : Reject) → checked_asked asked ≡ Some name →
      IsRejectedPlan files name plant reject → IsCauseOf files asked (rejected plant reject)
  overruns : (plant : Plant) (frame : FrameId) → PlansPlant files asked plant → OverrunsAt plant frame →
      IsCauseOf files asked (ending 9 (overrun_line frame.0))
  wrong_world : (run : RunAsked) (plant : Plant) (bundles : List Bundle) (walks : List (List PortNo)) (name : List ℕ)
      (line place : ℕ) → run_asked asked ≡ Some run → run.world ≡ by_file name →
      IsSizedPlan files run plant bundles walks → IsWrongHeld files name plant bundles run.cycles line place →
      IsCauseOf files asked (ending 10 (world_line line place))
  long_run : (run : RunAsked) (plant : Plant) (bundles : List Bundle) (walks : List (List PortNo)) →
      run_asked asked ≡ Some run → IsWalkedPlan files run.plant plant bundles walks →
      is_too_long plant bundles walks run.cycles ≡ true → IsCauseOf files asked (ending 11 long_run_line)
  plans : (name : List ℕ) (plant : Plant) (bundles : List Bundle) (text : List ℕ) → asked ≡ Some (plan name) →
      IsPlantFile files name plant → ArePlanned plant bundles → IsPlanText plant bundles text →
      IsCauseOf files asked (ending 0 text)
  accepts : (name : List ℕ) → asked ≡ Some (check name) →
      IsAcceptedPlan files name → IsCauseOf files asked (ending 0 accept_line)
  shows : (name : List ℕ) (bundle : Bundle) → asked ≡ Some (show name) →
      IsBundleFile files name bundle → IsCauseOf files asked (ending 0 (bundle_text bundle))
  reports : (name : List ℕ) (cycles seed : ℕ) (plant : Plant) (text : List ℕ) → asked ≡ Some (sync name cycles seed) →
      IsPlantFile files name plant → IsReportText plant cycles seed text → IsCauseOf files asked (ending 0 text)
  runs : (run : RunAsked) (plant : Plant) (bundles : List Bundle) (walks : List (List PortNo)) (world : World)
      (text : List ℕ) → run_asked asked ≡ Some run → IsRun files run plant bundles walks world →
      IsRunText run.pace plant bundles walks world text → IsCauseOf files asked (ending 0 text)
  generates : (made : GenAsked) (bundles : List Bundle) (text : List ℕ) → gen_asked asked ≡ Some made →
      ArePlanned (made_plant made) bundles → IsGenText made bundles text → IsCauseOf files asked (ending 0 text)
