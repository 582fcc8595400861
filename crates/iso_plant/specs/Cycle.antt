-- What a step of a plant's parts asks, and what it leaves.
use Rattle.std.specs.Prelude.{ℕ, ◌<◌, List, length}
use Rattle.irt_base.specs.declared.plants.App.{App}
use Rattle.irt_net.specs.Net.{NetState}
use Rattle.irt_world.specs.declared.rows.World.{World}
use Rattle.plant_stations.specs.Stations.{StationsState}
use Rattle.run_journal.specs.Written.{Written}
use Rattle.iso_plant.specs.History.{AppCycles}
use Rattle.iso_plant.specs.State.{IsState, Parts, view_of}
use Rattle.iso_plant.specs.Step.{EndsView, IsFresh, ServesPlant, Steps}

abbrev pub parts_of : NetState → StationsState → World → Written → ℕ → List App → List AppCycles → List (List ℕ) → List (List ℕ) → Parts
parts_of net stations world journal done apps histories outputs images = record {
  net = net;
  stations = stations;
  world = world;
  journal = journal;
  done = done;
  apps = apps;
  histories = histories;
  outputs = outputs;
  images = images;
}

-- A cycle of the world is left, and exchanges serve it.
pub record CanStep (p : Parts) (before : EndsView) : Type 0 where
  pub state : IsState p
  pub below : p.done < length p.world.rows
  pub serves : ServesPlant (view_of p) before
  pub fresh : IsFresh before

-- It is done.
pub record IsNext (p next : Parts) (before after : EndsView) : Type 0 where
  pub holds : IsState next
  pub steps : Steps (view_of p) (view_of next) before after
