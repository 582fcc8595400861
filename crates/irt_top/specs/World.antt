-- The world of a run: how the words ask for it, and the steps that bring it.
use Rattle.std.specs.Prelude.{ℕ, List, Option, Result, Ok, Err}
use Rattle.irt_base.specs.declared.blocks.Bundle.{Bundle}
use Rattle.irt_base.specs.declared.limits.TheConstants.{WORLD_FILE}
use Rattle.irt_base.specs.declared.plants.Plant.{Plant}
use Rattle.irt_io.specs.Files.{Files}
use Rattle.irt_steps.specs.Steps.{Ending, ending, Steps, gives, loads, asks, judged, IsHeld}
use Rattle.irt_world.specs.declared.rows.World.{World}
use Rattle.plan_rules.specs.Plan.{IsPlan}
use Rattle.plan_run.specs.World.{IsSeedWorld}
use Rattle.world_file.specs.Text.{IsWorldFile}
use Rattle.world_file.specs.Wrong.{IsFirstWrong}
use Rattle.irt_top.specs.Lines.{world_line}
use Rattle.irt_top.specs.declared.world.WorldAsked.{WorldAsked}
use Rattle.irt_top.specs.declared.world.WorldAsked.TheVariants as words

-- by a seed, or by the name of a file
pub data WorldSource : Type 0 where
  by_seed : (seed : ℕ) → WorldSource
  by_file : (name : List ℕ) → WorldSource

abbrev pub source_of : WorldAsked → WorldSource
source_of (words.Seed seed) = by_seed seed
source_of (words.File name) = by_file name.now

-- ---- steps

-- what a world file is: that of a world, or wrong at a first line and place
pub data WorldReading : Type 0 where
  right : World → WorldReading
  wrong : (line place : ℕ) → WorldReading

pub record IsWorldIn (plant : Plant) (bundles : List Bundle) (cycles : ℕ) (bytes : List ℕ) (world : World) : Type 0 where
  pub plan : IsPlan plant bundles
  pub text : IsWorldFile plant bundles cycles bytes world

pub record IsWrongIn (plant : Plant) (bundles : List Bundle) (cycles : ℕ) (bytes : List ℕ) (line place : ℕ) : Type 0 where
  pub plan : IsPlan plant bundles
  pub first : IsFirstWrong plant bundles cycles bytes line place

abbrev pub IsWorldReading : Plant → List Bundle → ℕ → List ℕ → WorldReading → Type 0
IsWorldReading plant bundles cycles bytes (right world) = IsWorldIn plant bundles cycles bytes world
IsWorldReading plant bundles cycles bytes (wrong line place) = IsWrongIn plant bundles cycles bytes line place

abbrev pub reading_answer : WorldReading → Result World Ending
reading_answer (right world) = Ok world
reading_answer (wrong line place) = Err (ending 10 (world_line line place))

abbrev pub reading_steps : Plant → List Bundle → ℕ → List ℕ → Steps World
reading_steps plant bundles cycles bytes =
    asks (IsWorldReading plant bundles cycles bytes) (λ found. judged (reading_answer found))

abbrev pub world_steps : WorldSource → Plant → List Bundle → ℕ → Steps World
world_steps (by_seed seed) plant bundles cycles = asks (IsSeedWorld plant bundles seed cycles) (λ world. gives world)
world_steps (by_file name) plant bundles cycles = loads name WORLD_FILE (reading_steps plant bundles cycles)

-- ---- what the files are

-- a file holds the text of a world of so many cycles
pub record IsWorldHeld (files : Option Files) (name : List ℕ) (plant : Plant) (bundles : List Bundle) (cycles : ℕ) (world : World) : Type 0 where
  pub bytes : List ℕ
  pub held : IsHeld files name WORLD_FILE bytes
  pub is : IsWorldIn plant bundles cycles bytes world

-- a file holds none, and this is the first line and place at which it is wrong
pub record IsWrongHeld (files : Option Files) (name : List ℕ) (plant : Plant) (bundles : List Bundle) (cycles line place : ℕ) : Type 0 where
  pub bytes : List ℕ
  pub held : IsHeld files name WORLD_FILE bytes
  pub is : IsWrongIn plant bundles cycles bytes line place

-- the world of the words: that of the seed, by PTCP where the plant's clocks are; or that of the file
abbrev pub IsWorldOf : Option Files → WorldSource → Plant → List Bundle → ℕ → World → Type 0
IsWorldOf files (by_seed seed) plant bundles cycles world = IsSeedWorld plant bundles seed cycles world
IsWorldOf files (by_file name) plant bundles cycles world = IsWorldHeld files name plant bundles cycles world
