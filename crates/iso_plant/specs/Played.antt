-- What the network and the stations of a plant make of a cycle.
use Rattle.std.specs.Prelude.{◌≡◌, ℕ, ◌+◌, List}
use Rattle.cycle_events.specs.Run.{IsPlayIn}
use Rattle.irt_net.specs.Net.{Carries, HasRoomFor, IsReached, IsSameNet, NetState, PlaysCycle}
use Rattle.irt_world.specs.Rows.{IsRowOf}
use Rattle.irt_world.specs.declared.rows.Row.{Row}
use Rattle.net_site.specs.Site.{play_in}
use Rattle.parcel_rules.specs.Loads.{Loads}
use Rattle.plan_rules.specs.Places.{IsAccepted}
use Rattle.plan_rules.specs.Plan.{IsPlan, setup_of}
use Rattle.plan_rules.specs.Way.{Setup}
use Rattle.plan_rules.specs.World.{WorldRow}
use Rattle.plant_stations.specs.Loaded.{AreOutputs, HaveWidths}
use Rattle.plant_stations.specs.Stations.{AreImages, AreInCycle, AreTrueImages, HavePlayed, StationsState}
use Rattle.run_journal.specs.Written.{Written}

abbrev pub net_setup : NetState → Setup
net_setup net = setup_of net.plant net.bundles

-- The stations are those of the network's plan.
pub record AreStationsOf (net : NetState) (stations : StationsState) : Type 0 where
  pub plant : stations.plant ≡ net.plant
  pub bundles : stations.bundles ≡ net.bundles

-- Cycle k of a world is to be played with this row, and with what the devices send.
pub record IsCycleOf (world : List WorldRow) (taken : ℕ → ℕ → List ℕ) (loads : Loads) (k : ℕ) (row : Row) (outputs : List (List ℕ))
    (net : NetState) (stations : StationsState) : Type 0 where
  pub play : IsPlayIn (play_in net.plant net.bundles row k) world
  pub sent : AreOutputs (net_setup net) taken k outputs
  pub carries : Carries net loads
  pub played : HavePlayed world taken k stations

-- A cycle can be played: there is a world, and so on, of which it is one.
pub record CanPlay (k : ℕ) (row : Row) (outputs images : List (List ℕ)) (net : NetState) (stations : StationsState) (space : ℕ) : Type 0 where
  pub plan : IsPlan net.plant net.bundles
  pub accepted : IsAccepted net.plant net.bundles
  pub same : AreStationsOf net stations
  pub fits : IsRowOf net.plant net.bundles row
  pub cycle : AreInCycle k stations
  pub widths : HaveWidths (net_setup net) outputs
  pub shown : AreImages net.plant (net_setup net) images
  pub room : HasRoomFor net 1 space
  pub world : List WorldRow
  pub taken : ℕ → ℕ → List ℕ
  pub loads : Loads
  pub is : IsCycleOf world taken loads k row outputs net stations
  pub reached : IsReached net row k

-- It was: the journal has grown by its rows, and the images are those of the apps' devices.
pub record HasPlayed (world : List WorldRow) (taken : ℕ → ℕ → List ℕ) (loads : Loads) (k : ℕ) (old new : NetState)
    (stations : StationsState) (before after : Written) (images : List (List ℕ)) : Type 0 where
  pub rows : PlaysCycle world k loads old new before after
  pub played : HavePlayed world taken (k + 1) stations
  pub shown : AreTrueImages (net_setup old) world taken k images

-- The plan is as before, the next cycle goes on, and there is room as before but for one cycle.
pub record GoesOn (k : ℕ) (old new : NetState) (stations : StationsState) (before after : Written) (images : List (List ℕ)) : Type 0 where
  pub same : IsSameNet old new
  pub plan : AreStationsOf new stations
  pub cycle : AreInCycle (k + 1) stations
  pub shown : AreImages new.plant (net_setup new) images
  pub room : (cycles : ℕ) → HasRoomFor old (cycles + 1) before.room → HasRoomFor new cycles after.room
