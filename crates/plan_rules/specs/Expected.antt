-- What accepted blocks promise over every table of clock errors, bridge delays and cut links.
use Rattle.std.specs.Prelude.{◌≡◌, ℕ, ◌+◌, ◌*◌, false, List, Some, slice_get, ℤ, pos, ◌+ℤ◌, ◌≤ℤ◌, ◌⊎◌, All}
use Rattle.irt_base.specs.Cycle.{IsDue, wire_time, cycle_time, guard_time}
use Rattle.irt_base.specs.Periods.{period_at}
use Rattle.irt_base.specs.declared.blocks.Bundle.{Bundle}
use Rattle.irt_base.specs.declared.blocks.Entry.{Entry}
use Rattle.irt_base.specs.declared.blocks.Period.{Period}
use Rattle.irt_base.specs.declared.blocks.Side.TheVariants.{Tx, Rx}
use Rattle.irt_base.specs.declared.plants.Plant.{Plant}
use Rattle.plan_rules.specs.World.{WorldRow, IsInStep}
use Rattle.plan_rules.specs.Way.{entry_at, Leaves, IsInRange}
use Rattle.plan_rules.specs.Occupation.{Occupation, IsOccupation, AreOccupations, AreApart}
use Rattle.plan_rules.specs.Arrival.{Arrival, IsArrival, Delivery, IsDelivery, IsInTime}
use Rattle.plan_rules.specs.Once.{StartsOnce, SendsExactly, ReachesExactly, LivesUndisturbed}
use Rattle.plan_rules.specs.Plan.{setup_of}

-- A stretch of true time, in ns, that a sender's port leaves to parcels: in a cycle in which the sender is in
-- step, from its orange begin to the guard before the cycle's end, both in its local time.
pub record IsFree (plant : Plant) (bundles : List Bundle) (world : List WorldRow) (device port : ℕ) (from until : ℤ) : Type 0 where
  pub cycle : ℕ
  pub row : WorldRow
  pub bundle : Bundle
  pub tx : Period
  pub in_cycle : slice_get world cycle ≡ Some row
  pub in_step : IsInStep plant row device
  pub held : slice_get bundles device ≡ Some bundle
  pub sends : period_at bundle.periods port cycle Tx ≡ Some tx
  pub opens : (pos (cycle * cycle_time plant.factor + tx.orange) +ℤ row.error device) ≤ℤ from
  pub closes : (until +ℤ pos (guard_time plant.window)) ≤ℤ (pos ((cycle + 1) * cycle_time plant.factor) +ℤ row.error device)

-- The receiver's own blocks take an arrival: they have the frame, due, of this length and at this port, with
-- arrival in the red period and, where it goes on by an offset, before that.
pub record IsTaken (plant : Plant) (bundles : List Bundle) (row : WorldRow) (from : Entry) (a : Arrival) : Type 0 where
  pub bundle : Bundle
  pub e : Entry
  pub rx : Period
  pub local : ℤ
  pub held : slice_get bundles a.device ≡ Some bundle
  pub stands : entry_at (setup_of plant bundles) a.device a.frame ≡ Some e
  pub length : e.data_length ≡ from.data_length
  pub due : IsDue a.cycle e.ratio e.phase
  pub port : e.rx_port ≡ a.port
  pub receives : period_at bundle.periods a.port a.cycle Rx ≡ Some rx
  pub local_time : (pos (a.cycle * cycle_time plant.factor) +ℤ row.error a.device +ℤ local) ≡ a.start
  pub opens : pos rx.red ≤ℤ (local +ℤ pos (guard_time bundle.sync.window))
  pub closes : (local +ℤ pos (wire_time e.data_length)) ≤ℤ pos rx.orange
  pub early : bundle.frames.relative ≡ false → ((port : ℕ) × Leaves e port) → (local +ℤ pos bundle.global.bridge) ≤ℤ pos e.send_offset

-- No two frames ever occupy a link direction at once.
abbrev pub NeverCollides : Plant → List Bundle → List WorldRow → Type 0
NeverCollides plant bundles world = (rows : List Occupation) → AreOccupations (setup_of plant bundles) world rows → AreApart rows

-- No frame meets what is left to parcels.
abbrev pub LeavesFree : Plant → List Bundle → List WorldRow → Type 0
LeavesFree plant bundles world = (o : Occupation) (from until : ℤ) → IsOccupation (setup_of plant bundles) world o →
    IsFree plant bundles world o.device o.port from until → (o.end ≤ℤ from) ⊎ (until ≤ℤ o.start)

-- Every delivery comes by its planned time.
abbrev pub DeliversInTime : Plant → List Bundle → List WorldRow → Type 0
DeliversInTime plant bundles world = (d : Delivery) → IsDelivery (setup_of plant bundles) world d → IsInTime (setup_of plant bundles) d

-- A device in step takes every frame that arrives: so it drops one only where it is not in step.
abbrev pub TakesArrivals : Plant → List Bundle → List WorldRow → Type 0
TakesArrivals plant bundles world = (a : Arrival) (row : WorldRow) (from : Entry) → slice_get world a.cycle ≡ Some row →
    IsArrival (setup_of plant bundles) row from a → IsInStep plant row a.device → IsTaken plant bundles row from a

-- What holds over one table, for any number of cycles.
pub record IsSafeOver (plant : Plant) (bundles : List Bundle) (world : List WorldRow) : Type 0 where
  pub apart : NeverCollides plant bundles world
  pub free : LeavesFree plant bundles world
  pub in_time : DeliversInTime plant bundles world
  pub taken : TakesArrivals plant bundles world
  pub sent : SendsExactly (setup_of plant bundles) world
  pub reached : ReachesExactly (setup_of plant bundles) world
  pub starts : (k : ℕ) (row : WorldRow) → slice_get world k ≡ Some row → StartsOnce (setup_of plant bundles) row k
  pub live : (k : ℕ) (row : WorldRow) → slice_get world k ≡ Some row → LivesUndisturbed (setup_of plant bundles) row

-- What holds over every table with bridge delays in their ranges.
abbrev pub IsSafe : Plant → List Bundle → Type 0
IsSafe plant bundles = (world : List WorldRow) → All (IsInRange (setup_of plant bundles)) world → IsSafeOver plant bundles world
