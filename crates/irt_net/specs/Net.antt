-- A network, as its clauses see it, and what a cycle makes of it and of the journal.
use Rattle.std.specs.Prelude.{◌≡◌, ℕ, ◌+◌, ◌*◌, ◌≤◌, List, ◌++◌, slice_get}
use Rattle.cycle_events.specs.Run.{IsPlayIn}
use Rattle.cycle_frames.specs.Came.{HaveCome}
use Rattle.cycle_frames.specs.declared.came.Came.{Came}
use Rattle.cycle_rows.specs.Journal.{IsSegment}
use Rattle.cycle_rows.specs.declared.rows.JournalRow.{JournalRow}
use Rattle.irt_base.specs.declared.blocks.Bundle.{Bundle}
use Rattle.irt_base.specs.declared.numbers.PortNo.{PortNo}
use Rattle.irt_base.specs.declared.plants.Plant.{Plant}
use Rattle.irt_switch.specs.State.{SwitchState}
use Rattle.irt_world.specs.declared.rows.Row.{Row}
use Rattle.net_parcels.specs.Loads.{HoldLoads}
use Rattle.net_site.specs.Site.{play_in}
use Rattle.parcel_rules.specs.Cycle.{after_row, loads_at}
use Rattle.parcel_rules.specs.Loads.{Loads}
use Rattle.parcel_rules.specs.Room.{pending}
use Rattle.parcel_rules.specs.Rows.{rows_in}
use Rattle.parcel_rules.specs.declared.handed.Handed.{Handed}
use Rattle.plan_rules.specs.Plan.{setup_of}
use Rattle.plan_rules.specs.World.{WorldRow}
use Rattle.run_journal.specs.Written.{Written}

pub record NetState : Type 0 where
  pub plant : Plant
  pub bundles : List Bundle
  -- of each traffic entry its walk
  pub walks : List (List PortNo)
  pub switches : List SwitchState
  -- the parcels that links bring to the next cycle
  pub flight : List Handed
  -- which frames came to which devices in the last cycle
  pub came : List Came
  -- the most rows that a cycle adds to what the journal may need
  pub most : ℕ

-- the same plan and walks
pub record IsSameNet (old new : NetState) : Type 0 where
  pub plant : new.plant ≡ old.plant
  pub bundles : new.bundles ≡ old.bundles
  pub walks : new.walks ≡ old.walks
  pub most : new.most ≡ old.most

-- The parcels at the ports and on the way are those of the rules.
abbrev pub Carries : NetState → Loads → Type 0
Carries net loads = HoldLoads net.plant net.switches net.flight loads

-- A world is played whose cycle k has this row, and the parcels are where the cycles before put them.
pub record IsReached (net : NetState) (row : Row) (k : ℕ) : Type 0 where
  pub world : List WorldRow
  pub played : IsPlayIn (play_in net.plant net.bundles row k) world
  pub carries : Carries net (loads_at net.plant net.bundles net.walks world k)

-- Cycle k of a world was played: the journal has grown by exactly its rows, those of the frames and then those of the
-- parcels, and what came to which device is exactly what has to reach it.
pub record PlaysCycle (world : List WorldRow) (k : ℕ) (loads : Loads) (old new : NetState) (before after : Written) : Type 0 where
  pub frames : List JournalRow
  pub segment : IsSegment (setup_of old.plant old.bundles) world k frames
  pub rows : after.rows ≡ before.rows ++ (frames ++ rows_in old.plant old.bundles old.walks k loads (slice_get world k))
  pub carries : Carries new (after_row old.plant old.bundles old.walks k loads (slice_get world k))
  pub came : HaveCome (setup_of old.plant old.bundles) world k new.came

-- The journal has room for so many cycles more, and for what the parcels on the way may still get.
abbrev pub HasRoomFor : NetState → ℕ → ℕ → Type 0
HasRoomFor net cycles room = (loads : Loads) → Carries net loads → cycles * net.most + pending net.plant net.walks loads ≤ room
