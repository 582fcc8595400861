-- What a run leaves of an app that found all cycles.
use Rattle.std.specs.Prelude.{◌≡◌, ℕ, ◌≤◌, List, Option, Some, slice_get}
use Rattle.iso_plant.specs.Replay.{IsReplay, PlantView, images_of, setup_in, takes_of, world_in}
use Rattle.iso_rules.specs.Legal.{IsLegalLog}
use Rattle.iso_rules.specs.Lockstep.{words_taken}
use Rattle.iso_rules.specs.declared.turn.Turn.{Turn}
use Rattle.irt_base.specs.declared.plants.App.{App}
use Rattle.free_plant.specs.Named.{IsOfRun, cycles_of}

-- the plant of a run of one cycle or more, all done
pub record HasEnded (start : Option PlantView) (v : PlantView) : Type 0 where
  pub run : IsOfRun start v
  pub replay : IsReplay v
  pub done : v.done ≡ cycles_of start
  pub some : 1 ≤ cycles_of start

-- the log of an app with these turns is legal
abbrev pub HasLegalLog :
    {A : Type 0} → (A → List ℕ → ℕ → List ℕ) → (A → List ℕ → ℕ → A) → List A → PlantView → ℕ → List Turn → Type 0
HasLegalLog {A} reply next firsts v n turns =
    (app : App) (state : A) → slice_get v.plant.apps n ≡ Some app → slice_get firsts n ≡ Some state →
    IsLegalLog reply next (setup_in v) (world_in v) (words_taken v.takes) app.device.0 state
    (record { takes = takes_of n v; images = images_of n v; turns = turns })
