-- The parts of a network: what a clause sees of them, and what is so before the first cycle and after each.
use Rattle.std.specs.Prelude.{◌≡◌, ℕ, ◌+◌, ◌≤◌, List, [], map, vec_capacity}
use Rattle.cycle_events.specs.Run.{IsPlayIn}
use Rattle.irt_base.specs.declared.blocks.Bundle.{Bundle}
use Rattle.irt_base.specs.declared.plants.Plant.{Plant}
use Rattle.irt_net.specs.declared.parts.Parts.{Parts}
use Rattle.irt_net.specs.declared.parts.Tables.{Tables}
use Rattle.irt_net.specs.Net.{Carries, HasRoomFor, IsSameNet, NetState, PlaysCycle}
use Rattle.irt_net.specs.Whole.{IsWhole, walks_of}
use Rattle.irt_route.specs.Routes.{RouteTables}
use Rattle.irt_switch.specs.State.{new_switch}
use Rattle.irt_world.specs.declared.rows.Row.{Row}
use Rattle.net_parcels.specs.Loads.{AreStepsOf}
use Rattle.net_parcels.specs.Parcels.{IsMadeFor, ParcelsState}
use Rattle.net_site.specs.Site.{SiteState, bundles_of, play_in}
use Rattle.parcel_rules.specs.Loads.{Loads, no_loads}
use Rattle.parcel_rules.specs.Room.{most_rows}
use Rattle.plan_rules.specs.World.{WorldRow}
use Rattle.run_journal.specs.Written.{Written}

abbrev pub state_of : Parts → NetState
state_of parts = record {
  plant = parts.site.plant;
  bundles = bundles_of parts.tables.switches.items;
  walks = walks_of parts.parcels.steps;
  switches = parts.tables.switches.items;
  flight = parts.parcels.flight;
  came = parts.tables.came.items;
  most = parts.most;
}

abbrev pub AreWhole : Parts → Type 0
AreWhole parts = IsWhole parts.site parts.tables.switches.items parts.parcels parts.tables.queue (vec_capacity parts.tables.came) parts.most

-- a switch for each device's blocks, before the first cycle, and room for so many events
pub record AreTablesOf (bundles : List Bundle) (places : ℕ) (tables : Tables) : Type 0 where
  pub made : tables.switches.items ≡ map new_switch bundles
  pub empty : tables.queue.events ≡ []
  pub room : tables.queue.room ≡ places
  pub noted : places ≤ vec_capacity tables.came

-- parcels of a plant of which none is on the way, and the most rows of a cycle, where its frames add so many
pub record AreParcelsOf (plant : Plant) (routes : RouteTables) (places : ℕ) (parcels : ParcelsState) (most : ℕ) : Type 0 where
  pub made : IsMadeFor plant parcels
  pub steps : AreStepsOf plant routes.walks parcels.steps
  pub none : parcels.flight ≡ []
  pub rows : most ≡ places + most_rows plant routes.walks

pub record AreJoined (site : SiteState) (tables : Tables) (routes : RouteTables) (places : ℕ) (parts : Parts) : Type 0 where
  pub same_site : parts.site ≡ site
  pub same_tables : parts.tables ≡ tables
  pub parcels : AreParcelsOf site.plant routes places parts.parcels parts.most

-- the parts of a plan's network before its first cycle
pub record AreOpened (plant : Plant) (bundles : List Bundle) (routes : RouteTables) (parts : Parts) : Type 0 where
  pub whole : AreWhole parts
  pub same_plant : parts.site.plant ≡ plant
  pub same_bundles : bundles_of parts.tables.switches.items ≡ bundles
  pub same_walks : walks_of parts.parcels.steps ≡ routes.walks
  pub empty : Carries (state_of parts) no_loads

-- Cycle k was played: the rules' rows are in the journal, and room is left for the cycles after it.
pub record HavePlayed (row : Row) (k : ℕ) (old new : NetState) (before after : Written) : Type 0 where
  pub same : IsSameNet old new
  pub rows : (world : List WorldRow) (loads : Loads) → IsPlayIn (play_in old.plant old.bundles row k) world → Carries old loads →
      PlaysCycle world k loads old new before after
  pub room : (cycles : ℕ) → HasRoomFor old (cycles + 1) before.room → HasRoomFor new cycles after.room
