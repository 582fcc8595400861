-- V2 to V9: the frames at the devices. The rules from V5 on speak of windows, which every entry has where V2 holds.
use Rattle.std.specs.Prelude.{◌≡◌, ℕ, ◌+◌, ◌*◌, ◌<◌, ◌≤◌, ◌⊎◌, List, Some, slice_get}
use Rattle.irt_base.specs.Cycle.{IsDue, SharesCycle, wire_time, cycle_time, guard_time}
use Rattle.irt_base.specs.Periods.{period_at}
use Rattle.irt_base.specs.Wiring.{hop_of}
use Rattle.irt_base.specs.declared.limits.TheConstants.{PHASES}
use Rattle.irt_base.specs.declared.blocks.Bundle.{Bundle}
use Rattle.irt_base.specs.declared.blocks.Entry.{Entry}
use Rattle.irt_base.specs.declared.blocks.Period.{Period}
use Rattle.irt_base.specs.declared.blocks.Side.TheVariants.{Tx, Rx}
use Rattle.irt_base.specs.declared.plants.Demand.{Demand}
use Rattle.irt_base.specs.declared.plants.Device.{Device}
use Rattle.irt_base.specs.declared.plants.Plant.{Plant}
use Rattle.plan_rules.specs.Way.{Setup, entry_at, Leaves, IsAbsolute, IsAnchor, IsParent}
use Rattle.plan_rules.specs.Tree.{IsInTree, demand_of}
use Rattle.plan_rules.specs.SendWindow.{SendWindow, HasWindow, slack_time}
use Rattle.plan_rules.specs.Plan.{setup_of}
use Rattle.plan_rules.specs.declared.place.Place.{Place}

-- V2 at a device and frame.
abbrev pub IsTreeAt : Plant → List Bundle → Place → Type 0
IsTreeAt plant bundles at = IsInTree (setup_of plant bundles) at.device.0 at.frame

-- the length that is demanded, often enough, in the cycles of the provider's entry
pub record IsAsDemanded (plant : Plant) (demand : Demand) (own e : Entry) : Type 0 where
  pub length : e.data_length ≡ demand.length
  pub update : e.ratio * cycle_time plant.factor ≤ demand.update
  pub ratio : e.ratio ≡ own.ratio
  pub phase : e.phase ≡ own.phase

-- V3 at a device and frame.
abbrev pub AgreesWithDemand : Plant → List Bundle → Place → Type 0
AgreesWithDemand plant bundles at = (demand : Demand) (own e : Entry) → demand_of plant at.frame ≡ Some demand →
    entry_at (setup_of plant bundles) demand.provider.0 at.frame ≡ Some own →
    entry_at (setup_of plant bundles) at.device.0 at.frame ≡ Some e → IsAsDemanded plant demand own e

-- V4 at a device and frame: no offset where no offset is used.
abbrev pub HasNoIdleOffset : Plant → List Bundle → Place → Type 0
HasNoIdleOffset plant bundles at = (e : Entry) → entry_at (setup_of plant bundles) at.device.0 at.frame ≡ Some e →
    ¬ IsAnchor (setup_of plant bundles) at.device.0 e → e.send_offset ≡ 0

-- A device's entry, its parent's window and the hop between them.
pub record IsForwarded (setup : Setup) (device frame : ℕ) (e : Entry) (hop : ℕ) (window : SendWindow) : Type 0 where
  pub parent : ℕ
  pub port : ℕ
  pub stands : entry_at setup device frame ≡ Some e
  pub comes : IsParent setup frame device e parent port
  pub hops : hop_of setup.plant parent port ≡ Some hop
  pub sends : HasWindow setup frame parent window

-- V5 at a device and frame: an absolute forwarder starts when it surely has the frame.
abbrev pub ForwardsLateEnough : Plant → List Bundle → Place → Type 0
ForwardsLateEnough plant bundles at = (e : Entry) (hop : ℕ) (window : SendWindow) (d : Device) →
    IsForwarded (setup_of plant bundles) at.device.0 at.frame e hop window → IsAbsolute plant at.device.0 →
    ((port : ℕ) × Leaves e port) → slice_get plant.devices at.device.0 ≡ Some d →
    window.hi + hop + d.bmax + guard_time plant.window ≤ e.send_offset

-- A device sends a frame by a port, in this window.
pub record IsSending (setup : Setup) (device port frame : ℕ) (e : Entry) (window : SendWindow) : Type 0 where
  pub stands : entry_at setup device frame ≡ Some e
  pub leaves : Leaves e port
  pub sends : HasWindow setup frame device window

-- the first frame is off the wire, and the slack is over, when the second one may start
abbrev pub IsBefore : ℕ → Entry → SendWindow → SendWindow → Type 0
IsBefore plant_window e first second = first.hi + wire_time e.data_length + slack_time plant_window first.anchor second.anchor ≤ second.lo

-- V6 at a device, port and two frames, the lesser first: frames of one direction that share a cycle don't meet.
abbrev pub KeepsApart : Plant → List Bundle → Place → Type 0
KeepsApart plant bundles at = (d e : Entry) (v w : SendWindow) → at.frame < at.other →
    IsSending (setup_of plant bundles) at.device.0 at.port at.frame d v →
    IsSending (setup_of plant bundles) at.device.0 at.port at.other e w →
    SharesCycle d.ratio d.phase e.ratio e.phase → IsBefore plant.window d v w ⊎ IsBefore plant.window e w v

-- V7 at a device, port and frame: a frame is sent in the sender's red period.
abbrev pub IsSentInRed : Plant → List Bundle → Place → Type 0
IsSentInRed plant bundles at = (e : Entry) (window : SendWindow) (b : Bundle) (phase : ℕ) (tx : Period) →
    IsSending (setup_of plant bundles) at.device.0 at.port at.frame e window → slice_get bundles at.device.0 ≡ Some b →
    phase < PHASES → IsDue phase e.ratio e.phase → period_at b.periods at.port phase Tx ≡ Some tx →
    (tx.red ≤ window.lo)
    × (window.hi + wire_time e.data_length + slack_time plant.window at.device.0 window.anchor ≤ tx.orange)

-- V8 at a receiver, its receiving port and a frame: a frame arrives in the receiver's red period.
abbrev pub IsReceivedInRed : Plant → List Bundle → Place → Type 0
IsReceivedInRed plant bundles at = (e : Entry) (hop : ℕ) (window : SendWindow) (b : Bundle) (phase : ℕ) (rx : Period) →
    IsForwarded (setup_of plant bundles) at.device.0 at.frame e hop window → e.rx_port ≡ at.port →
    slice_get bundles at.device.0 ≡ Some b → phase < PHASES → IsDue phase e.ratio e.phase →
    period_at b.periods at.port phase Rx ≡ Some rx →
    (rx.red ≤ window.lo + hop)
    × (window.hi + hop + wire_time e.data_length + guard_time plant.window ≤ rx.orange)

-- V9 at a device, port and frame: it is sent and received a guard before the cycle ends.
abbrev pub EndsInCycle : Plant → List Bundle → Place → Type 0
EndsInCycle plant bundles at = (e : Entry) (window : SendWindow) (hop : ℕ) →
    IsSending (setup_of plant bundles) at.device.0 at.port at.frame e window → hop_of plant at.device.0 at.port ≡ Some hop →
    window.hi + hop + wire_time e.data_length + guard_time plant.window ≤ cycle_time plant.factor
