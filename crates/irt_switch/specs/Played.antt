-- What a switch is told of an arrival in a world, and what its answer has to be there.
use Rattle.std.specs.Prelude.{◌≡◌, ◌↔◌, ℕ, ◌*◌, Bool, IsTrue, IsBitSet, length, Some, ℤ, pos, ◌+ℤ◌}
use Rattle.irt_base.specs.Cycle.{cycle_time}
use Rattle.irt_base.specs.declared.blocks.Entry.{Entry}
use Rattle.irt_base.specs.declared.plants.Demand.{Demand}
use Rattle.irt_base.specs.declared.plants.Plant.{Plant}
use Rattle.plan_rules.specs.Arrival.{Arrival}
use Rattle.plan_rules.specs.Network.{IsSentAt}
use Rattle.plan_rules.specs.Tree.{demand_of, Consumes}
use Rattle.plan_rules.specs.Way.{Setup, entry_at, Leaves, IsRelay}
use Rattle.plan_rules.specs.World.{WorldRow}
use Rattle.rtc3_frame.specs.Frame.{Fields}
use Rattle.irt_switch.specs.declared.action.Action.{Action}
use Rattle.irt_switch.specs.declared.action.Action.TheVariants.{Forward, Dropped}
use Rattle.irt_switch.specs.Arrive.{Reception}

-- the true time of a local time of a device, in a cycle
abbrev pub true_time : Plant → WorldRow → ℕ → ℕ → ℤ → ℤ
true_time plant row k device local = pos (k * cycle_time plant.factor) +ℤ row.error device +ℤ local

-- A switch is told of an arrival: its frame, with the data length of the sender's entry, the port, and the local time of
-- its start.
pub record IsToldOf (plant : Plant) (row : WorldRow) (from : Entry) (a : Arrival) (r : Reception) : Type 0 where
  pub fields : Fields
  pub told : r.frame ≡ Some fields
  pub frame : fields.frame ≡ a.frame
  pub count : length fields.csdu ≡ from.data_length
  pub port : r.port ≡ a.port
  pub local : true_time plant row a.cycle a.device r.local ≡ a.start

-- a relative forwarder takes the row's bridge delay; what is told of any other does not matter
abbrev pub TakesBridge : Setup → WorldRow → Arrival → ℕ → Type 0
TakesBridge setup row a bridge = (e : Entry) → entry_at setup a.device a.frame ≡ Some e → IsRelay setup a.device e → bridge ≡ row.bridge a.device a.frame

-- The frame goes on by exactly the ports by which it leaves, at each from the start that the blocks and the world give it,
-- and it is kept exactly at a consumer.
pub record GoesItsWay (setup : Setup) (row : WorldRow) (a : Arrival) (at : ℤ) (ports : ℕ) (here : Bool) : Type 0 where
  pub e : Entry
  pub demand : Demand
  pub stands : entry_at setup a.device a.frame ≡ Some e
  pub demanded : demand_of setup.plant a.frame ≡ Some demand
  pub leaves : (port : ℕ) → IsBitSet ports port ↔ Leaves e port
  pub sent : (port : ℕ) → Leaves e port → IsSentAt setup row a.cycle a.device port a.frame (true_time setup.plant row a.cycle a.device at)
  pub kept : IsTrue here ↔ Consumes demand a.device

abbrev pub IsPlayed : Setup → WorldRow → Arrival → Action → Type 0
IsPlayed setup row a (Dropped cause) = ⊥
IsPlayed setup row a (Forward at ports here) = GoesItsWay setup row a at ports here
