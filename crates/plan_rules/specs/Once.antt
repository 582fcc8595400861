-- What the frames of a plan do in a cycle: exactly what they have to, each once.
use Rattle.std.specs.Prelude.{◌≡◌, ℕ, ◌<◌, false, List, Some, length, slice_get, ℤ}
use Rattle.irt_base.specs.Cycle.{IsDue}
use Rattle.irt_base.specs.declared.blocks.Entry.{Entry}
use Rattle.irt_base.specs.declared.plants.Demand.{Demand}
use Rattle.irt_base.specs.declared.plants.Plant.{Plant}
use Rattle.plan_rules.specs.World.{WorldRow, IsInStep}
use Rattle.plan_rules.specs.Way.{Setup, entry_at, Leaves, IsLive, IsStart}
use Rattle.plan_rules.specs.Tree.{demand_of, Consumes}
use Rattle.plan_rules.specs.Occupation.{Occupation, IsOccupation}
use Rattle.plan_rules.specs.Arrival.{Delivery, IsDelivery}

-- exactly one value is so
pub record ExactlyOne {A : Type 0} (IsSo : A → Type 0) : Type 0 where
  pub one : A
  pub is : IsSo one
  pub only : (other : A) → IsSo other → other ≡ one

-- A demand's frame is due in a cycle, by the entry of its provider.
pub record IsDueFrame (setup : Setup) (k frame : ℕ) (demand : Demand) : Type 0 where
  pub own : Entry
  pub demanded : demand_of setup.plant frame ≡ Some demand
  pub stands : entry_at setup demand.provider.0 frame ≡ Some own
  pub due : IsDue k own.ratio own.phase

-- A device has to send a frame by a port in a cycle: the frame is due and leaves there, and its route to the device
-- is live.
pub record HasToSend (setup : Setup) (world : List WorldRow) (k device port frame : ℕ) : Type 0 where
  pub row : WorldRow
  pub demand : Demand
  pub entry : Entry
  pub in_cycle : slice_get world k ≡ Some row
  pub due : IsDueFrame setup k frame demand
  pub stands : entry_at setup device frame ≡ Some entry
  pub leaves : Leaves entry port
  pub live : IsLive setup row frame device

-- A frame has to reach a device in a cycle: it is due, the device consumes it, and the route to the device is live.
pub record HasToReach (setup : Setup) (world : List WorldRow) (k device frame : ℕ) : Type 0 where
  pub row : WorldRow
  pub demand : Demand
  pub in_cycle : slice_get world k ≡ Some row
  pub due : IsDueFrame setup k frame demand
  pub consumed : Consumes demand device
  pub live : IsLive setup row frame device

-- A frame starts once in a cycle at each device to which its route is live.
abbrev pub StartsOnce : Setup → WorldRow → ℕ → Type 0
StartsOnce setup row k = (device frame : ℕ) → IsLive setup row frame device → ExactlyOne (IsStart setup row k frame device)

-- The ports that have to send a frame do so, each from one start to one end, and no others do.
pub record SendsExactly (setup : Setup) (world : List WorldRow) : Type 0 where
  pub sent : (k device port frame : ℕ) → HasToSend setup world k device port frame → ExactlyOne (λ (times : ℤ × ℤ).
      IsOccupation setup world (record { cycle = k; device = device; port = port; frame = frame; start = times.0; end = times.1 }))
  pub only : (o : Occupation) → IsOccupation setup world o → HasToSend setup world o.cycle o.device o.port o.frame

-- A frame reaches those that it has to reach, each at one time, and nobody else.
pub record ReachesExactly (setup : Setup) (world : List WorldRow) : Type 0 where
  pub reached : (k device frame : ℕ) → HasToReach setup world k device frame → ExactlyOne (λ (end : ℤ).
      IsDelivery setup world (record { cycle = k; device = device; frame = frame; end = end }))
  pub only : (d : Delivery) → IsDelivery setup world d → HasToReach setup world d.cycle d.device d.frame

-- all devices are in step and no link is cut
pub record IsUndisturbed (plant : Plant) (row : WorldRow) : Type 0 where
  pub in_step : (device : ℕ) → device < length plant.devices → IsInStep plant row device
  pub uncut : (link : ℕ) → link < length plant.links → row.is_cut link ≡ false

-- In an undisturbed cycle the route of a frame is live to each device that has an entry of it.
abbrev pub LivesUndisturbed : Setup → WorldRow → Type 0
LivesUndisturbed setup row = IsUndisturbed setup.plant row → (device frame : ℕ) (e : Entry) → entry_at setup device frame ≡ Some e →
    IsLive setup row frame device
