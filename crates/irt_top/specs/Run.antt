-- The commands `run` and `free`: their steps, and what they tell of a plant's files and a world.
use Rattle.std.specs.Prelude.{◌≡◌, ℕ, Bool, true, false, List, [], Option, Some, None, Result, Ok, Err}
use Rattle.irt_base.specs.Wiring.{peer_of}
use Rattle.irt_base.specs.declared.blocks.Bundle.{Bundle}
use Rattle.irt_base.specs.declared.numbers.PortNo.{PortNo}
use Rattle.irt_base.specs.declared.plants.Plant.{Plant}
use Rattle.irt_io.specs.Files.{Files}
use Rattle.irt_route.specs.Routes.{AreTrafficWalks, IsFirstCutTraffic}
use Rattle.irt_steps.specs.Steps.{Ending, ending, Steps, gives, asks, after, judged}
use Rattle.irt_words.specs.Commands.{Command, run, run_world, free}
use Rattle.irt_world.specs.declared.rows.World.{World}
use Rattle.plan_check.specs.Verdicts.{IsJudged}
use Rattle.plan_rules.specs.Places.{IsAccepted}
use Rattle.plan_rules.specs.declared.place.Reject.{Reject}
use Rattle.plan_run.specs.Run.{IsRecordBy, IsRunText, Pace, in_lockstep, freely, text_of}
use Rattle.plan_run.specs.Safe.{IsSafeRun}
use Rattle.plan_run.specs.Size.{is_too_long}
use Rattle.record_fits.specs.Fits.{FitsPlant}
use Rattle.record_text.specs.declared.record.Record.{Record}
use Rattle.irt_top.specs.Check.{ArePlanFiles, rejected}
use Rattle.irt_top.specs.DeviceFiles.{bundles_steps}
use Rattle.irt_top.specs.Lines.{long_run_line, no_path_line}
use Rattle.irt_top.specs.PlantFile.{plant_steps}
use Rattle.irt_top.specs.World.{WorldSource, by_seed, by_file, world_steps, IsWorldOf}

-- what a run is asked for
pub record RunAsked : Type 0 where
  pub pace : Pace
  pub plant : List ℕ
  pub cycles : ℕ
  pub world : WorldSource

abbrev pub run_asked : Option Command → Option RunAsked
run_asked (Some (run plant cycles seed)) =
    Some (record { pace = in_lockstep; plant = plant; cycles = cycles; world = by_seed seed })
run_asked (Some (run_world plant cycles world)) =
    Some (record { pace = in_lockstep; plant = plant; cycles = cycles; world = by_file world })
run_asked (Some (free plant cycles seed)) =
    Some (record { pace = freely; plant = plant; cycles = cycles; world = by_seed seed })
run_asked asked = None

-- ---- steps

-- the blocks are accepted, or refused as by `check`
abbrev pub accepted_answer : Plant → Option Reject → Result (Unit {0}) Ending
accepted_answer plant None = Ok tt
accepted_answer plant (Some r) = Err (rejected plant r)

abbrev pub accepted_steps : Plant → List Bundle → Steps (Unit {0})
accepted_steps plant bundles = asks (IsJudged plant bundles) (λ found. judged (accepted_answer plant found))

-- the walks of the plant's traffic, or the first entry without one
pub data Walking : Type 0 where
  no_path : (traffic : ℕ) → Walking
  walked : List (List PortNo) → Walking

abbrev pub IsWalking : Plant → Walking → Type 0
IsWalking plant (no_path traffic) = IsFirstCutTraffic (peer_of plant) plant.traffic traffic
IsWalking plant (walked walks) = AreTrafficWalks (peer_of plant) plant.traffic walks

abbrev pub walking_answer : Walking → Result (List (List PortNo)) Ending
walking_answer (no_path traffic) = Err (ending 6 (no_path_line traffic))
walking_answer (walked walks) = Ok walks

abbrev pub walks_steps : Plant → Steps (List (List PortNo))
walks_steps plant = asks (IsWalking plant) (λ found. judged (walking_answer found))

abbrev pub size_answer : Bool → Result (Unit {0}) Ending
size_answer true = Err (ending 11 long_run_line)
size_answer false = Ok tt

abbrev pub size_steps : Plant → List Bundle → List (List PortNo) → ℕ → Steps (Unit {0})
size_steps plant bundles walks cycles = judged (size_answer (is_too_long plant bundles walks cycles))

-- the run itself: its record's text
abbrev pub record_steps : Pace → Plant → List Bundle → List (List PortNo) → World → Steps (List ℕ)
record_steps pace plant bundles walks world = asks (IsRunText pace plant bundles walks world) (λ text. gives text)

-- A world file is read where the size is right, and not before.
abbrev pub sized_steps : Pace → ℕ → WorldSource → Plant → List Bundle → List (List PortNo) → Steps (List ℕ)
sized_steps pace cycles source plant bundles walks =
    after (world_steps source plant bundles cycles) (record_steps pace plant bundles walks)

abbrev pub walked_steps : Pace → ℕ → WorldSource → Plant → List Bundle → List (List PortNo) → Steps (List ℕ)
walked_steps pace cycles source plant bundles walks =
    after (size_steps plant bundles walks cycles) (λ fits. sized_steps pace cycles source plant bundles walks)

abbrev pub ran_steps : Pace → ℕ → WorldSource → Plant → List Bundle → Steps (List ℕ)
ran_steps pace cycles source plant bundles = after (walks_steps plant) (walked_steps pace cycles source plant bundles)

abbrev pub run_plan_steps : Pace → ℕ → WorldSource → Plant → List Bundle → Steps (List ℕ)
run_plan_steps pace cycles source plant bundles =
    after (accepted_steps plant bundles) (λ accepted. ran_steps pace cycles source plant bundles)

abbrev pub run_plant_steps : Pace → ℕ → WorldSource → Plant → Steps (List ℕ)
run_plant_steps pace cycles source plant = after (bundles_steps plant.devices []) (run_plan_steps pace cycles source plant)

abbrev pub run_steps : Pace → List ℕ → ℕ → WorldSource → Steps (List ℕ)
run_steps pace name cycles source = after (plant_steps name) (run_plant_steps pace cycles source)

-- ---- what the files are

-- the rules hold for the blocks of a plant's devices
pub record IsCheckedPlan (files : Option Files) (name : List ℕ) (plant : Plant) (bundles : List Bundle) : Type 0 where
  pub are : ArePlanFiles files name plant bundles
  pub accepted : IsAccepted plant bundles

-- besides, the plant's traffic has these walks
pub record IsWalkedPlan (files : Option Files) (name : List ℕ) (plant : Plant) (bundles : List Bundle) (walks : List (List PortNo)) : Type 0 where
  pub checked : IsCheckedPlan files name plant bundles
  pub are_walks : AreTrafficWalks (peer_of plant) plant.traffic walks

-- besides, the run is not too long
pub record IsSizedPlan (files : Option Files) (asked : RunAsked) (plant : Plant) (bundles : List Bundle) (walks : List (List PortNo)) : Type 0 where
  pub walked : IsWalkedPlan files asked.plant plant bundles walks
  pub fits : is_too_long plant bundles walks asked.cycles ≡ false

-- besides, this is the world of the words
pub record IsRun (files : Option Files) (asked : RunAsked) (plant : Plant) (bundles : List Bundle) (walks : List (List PortNo)) (world : World) : Type 0 where
  pub sized : IsSizedPlan files asked plant bundles walks
  pub is_world : IsWorldOf files asked.world plant bundles asked.cycles world

-- What a run printed: the text of exactly one record.
pub record IsSafeRunText (files : Option Files) (asked : RunAsked) (text : List ℕ) : Type 0 where
  pub plant : Plant
  pub bundles : List Bundle
  pub walks : List (List PortNo)
  pub world : World
  pub log : Record
  -- The files spell the plant and its devices' blocks.
  pub are : ArePlanFiles files asked.plant plant bundles
  -- V1..V15 hold for them.
  pub accepted : IsAccepted plant bundles
  -- Parcels take the least of the shortest walks.
  pub are_walks : AreTrafficWalks (peer_of plant) plant.traffic walks
  -- The world is that of the words, with as many cycles.
  pub is_world : IsWorldOf files asked.world plant bundles asked.cycles world
  -- The record is that of the lockstep run of these blocks over this world, with the plant's applications; or it is a
  -- legal one, where each application has a thread of its own.
  pub is_record : IsRecordBy asked.pace plant bundles walks world log
  pub says : text ≡ text_of plant log
  -- It fits the plant, and no other record that does has this text.
  pub fits : FitsPlant plant log
  pub one : (other : Record) → FitsPlant plant other → text ≡ text_of plant other → other ≡ log
  -- Over this world no two frames or parcels occupy a link direction at once; each due frame reaches exactly its
  -- receivers with a live route, by its planned time; and each buffer taken is whole, one publication, never older than
  -- the last, of its planned cycle where taken inside its window.
  pub safe : IsSafeRun asked.pace plant bundles walks world log
