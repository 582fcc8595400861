-- A plant's file: the steps that read it, what it states, and why it is refused.
use Rattle.std.specs.Prelude.{ℕ, List, [], Option, Result, Ok, Err, option_map, unwrap_or, slice_get}
use Rattle.irt_base.specs.declared.limits.TheConstants.{PLANT_FILE}
use Rattle.irt_base.specs.declared.plants.Device.{Device}
use Rattle.irt_base.specs.declared.plants.Plant.{Plant}
use Rattle.irt_io.specs.Files.{Files}
use Rattle.irt_steps.specs.Steps.{Ending, ending, Steps, gives, loads, after, judged, IsHeld}
use Rattle.irt_topo.specs.Reading.{PlantRefusal, IsPlantDocument, IsRefusal, plant_of}
use Rattle.irt_top.specs.Lines.{refusal_line}

abbrev pub plant_answer : Result Plant PlantRefusal → Result Plant Ending
plant_answer (Ok plant) = Ok plant
plant_answer (Err refusal) = Err (ending 5 (refusal_line refusal))

abbrev pub plant_steps : List ℕ → Steps Plant
plant_steps name = after (loads name PLANT_FILE (λ bytes. gives bytes)) (λ bytes. judged (plant_answer (plant_of bytes)))

-- the name of a plant's device
abbrev pub name_of : Plant → ℕ → List ℕ
name_of plant device = unwrap_or (option_map (λ (d : Device). d.name) (slice_get plant.devices device)) []

-- a file states a plant
pub record IsPlantFile (files : Option Files) (name : List ℕ) (plant : Plant) : Type 0 where
  pub bytes : List ℕ
  pub held : IsHeld files name PLANT_FILE bytes
  pub states : IsPlantDocument bytes plant

-- a file is no plant's, for this reason
pub record IsRefusedFile (files : Option Files) (name : List ℕ) (refusal : PlantRefusal) : Type 0 where
  pub bytes : List ℕ
  pub held : IsHeld files name PLANT_FILE bytes
  pub refused : IsRefusal bytes refusal
