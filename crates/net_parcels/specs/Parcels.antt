-- What the parcels of a cycle make of the journal.
use Rattle.std.specs.Prelude.{◌≡◌, ℕ, ◌+◌, ◌*◌, ◌≤◌, List, ◌++◌, length, Some, slice_get, sum_by, slice_index_or, []}
use Rattle.std.specs.List.{enumerate_from}
use Rattle.irt_base.specs.declared.blocks.Bundle.{Bundle}
use Rattle.irt_base.specs.declared.numbers.PortNo.{PortNo}
use Rattle.irt_base.specs.declared.plants.Plant.{Plant}
use Rattle.irt_base.specs.declared.plants.Traffic.{Traffic}
use Rattle.period_gate.specs.declared.queue.TheConstants.{QUEUE_ROOM}
use Rattle.net_parcels.specs.Outlets.{End, AreEndsOf}
use Rattle.cycle_rows.specs.declared.rows.JournalRow.{JournalRow}
use Rattle.irt_base.specs.Periods.{period_at}
use Rattle.irt_base.specs.declared.blocks.Period.{Period}
use Rattle.irt_base.specs.declared.blocks.Side.TheVariants.{Tx}
use Rattle.irt_switch.specs.Begin.{parcel_limit}
use Rattle.irt_switch.specs.State.{SwitchState, HasPort, gate_of}
use Rattle.irt_world.specs.Rows.{world_row}
use Rattle.irt_world.specs.declared.rows.Row.{Row}
use Rattle.net_begin.specs.Clocks.{keeps_step}
use Rattle.irt_base.specs.Wiring.{peer_of}
use Rattle.irt_route.specs.Routes.{AreTrafficWalks}
use Rattle.net_parcels.specs.Loads.{HoldLoads, AreStepsOf}
use Rattle.net_site.specs.Site.{bundles_of}
use Rattle.parcel_rules.specs.Cycle.{after_sendings}
use Rattle.parcel_rules.specs.Loads.{Loads, offered}
use Rattle.parcel_rules.specs.Rows.{rows_after}
use Rattle.parcel_rules.specs.Steps.{Step}
use Rattle.parcel_rules.specs.declared.handed.Handed.{Handed}
use Rattle.run_journal.specs.Written.{Written}

-- the ports, the walks' steps by traffic entry, what is on the way over links, and how many parcels may be handed over in
-- a cycle
pub record ParcelsState : Type 0 where
  pub ends : List End
  pub steps : List (List Step)
  pub flight : List Handed
  pub room : ℕ

-- the parcels that all entries together make in a cycle
abbrev pub made_at_most : Plant → ℕ
made_at_most plant = sum_by (λ (t : Traffic). t.count) plant.traffic

-- the most rows of a journal that what entries make in a cycle may ever get, by the steps of their walks
abbrev pub rows_by_steps : List Traffic → List (List Step) → ℕ
rows_by_steps entries steps =
    sum_by (λ (e : ℕ × Traffic). e.1.count * (length (slice_index_or steps e.0 []) + 1)) (enumerate_from 0 entries)

-- It was made for this plant: it has the plant's ports, and room for what they bring and for what is made in a cycle.
pub record IsMadeFor (plant : Plant) (p : ParcelsState) : Type 0 where
  pub ends : AreEndsOf plant p.ends
  pub room : length p.ends * (2 * QUEUE_ROOM) + made_at_most plant ≤ p.room

-- Each gate of a device has the Tx period and the limit of cycle k.
pub record HasOpened (plant : Plant) (row : Row) (k device : ℕ) (s : SwitchState) : Type 0 where
  pub in_step : s.in_step ≡ keeps_step plant row device
  pub period : (port : ℕ) (tx : Period) → HasPort s.bundle port → period_at s.bundle.periods port k Tx ≡ Some tx →
      (gate_of s port).period ≡ tx
  pub limit : (port : ℕ) → HasPort s.bundle port → (gate_of s port).limit ≡ parcel_limit s.bundle.sync

abbrev pub AllHaveOpened : Plant → Row → ℕ → List SwitchState → Type 0
AllHaveOpened plant row k switches = (device : ℕ) (s : SwitchState) → slice_get switches device ≡ Some s → HasOpened plant row k device s

-- the parcels' rows of cycle k, where these loads stood before it
abbrev pub parcel_part : Plant → List Bundle → List (List PortNo) → Row → ℕ → Loads → List JournalRow
parcel_part plant bundles walks row k loads =
    rows_after plant bundles (world_row plant bundles row) k (offered plant walks k loads)

-- and the loads after it
abbrev pub loads_after : Plant → List Bundle → List (List PortNo) → Row → ℕ → Loads → Loads
loads_after plant bundles walks row k loads =
    after_sendings plant bundles (world_row plant bundles row) k (offered plant walks k loads).gates

-- the walks that the steps are of
abbrev pub HaveWalks : Plant → List (List Step) → Type 0
HaveWalks plant steps =
    (walks : List (List PortNo)) × AreTrafficWalks (peer_of plant) plant.traffic walks × AreStepsOf plant walks steps

-- The journal has grown by the parcels' rows of cycle k, and the parcels are where the rules put them.
pub record GrowsByParcels (plant : Plant) (bundles : List Bundle) (walks : List (List PortNo)) (row : Row) (k : ℕ) (loads : Loads)
    (old new : Written) (switches : List SwitchState) (flight : List Handed) : Type 0 where
  pub rows : new.rows ≡ old.rows ++ parcel_part plant bundles walks row k loads
  pub room : new.room + length (parcel_part plant bundles walks row k loads) ≡ old.room
  pub held : HoldLoads plant switches flight (loads_after plant bundles walks row k loads)

-- For some loads that the switches and the parcels on the way are, the journal has room for the parcels' rows of cycle k.
pub record HasRoomIn (plant : Plant) (switches : List SwitchState) (steps : List (List Step)) (handed : List Handed) (row : Row) (k room : ℕ) : Type 0 where
  pub walks : List (List PortNo)
  pub loads : Loads
  pub are : AreStepsOf plant walks steps
  pub held : HoldLoads plant switches handed loads
  pub enough : length (parcel_part plant (bundles_of switches) walks row k loads) ≤ room

-- A switch keeps its blocks, its cycle, what it still has to release, and as many gates.
pub record KeepsSwitch (old new : SwitchState) : Type 0 where
  pub bundle : new.bundle ≡ old.bundle
  pub cycle : new.cycle ≡ old.cycle
  pub in_step : new.in_step ≡ old.in_step
  pub left : new.left ≡ old.left
  pub gates : length new.gates ≡ length old.gates

pub record KeepAllButGates (old new : List SwitchState) : Type 0 where
  pub count : length new ≡ length old
  pub each : (device : ℕ) (s t : SwitchState) → slice_get old device ≡ Some s → slice_get new device ≡ Some t → KeepsSwitch s t
