-- A way from the parent's.
use Rattle.std.specs.Prelude.{◌≡◌, ℕ, ◌+◌, ◌*◌, ◌≤◌, ◌⊎◌, Some, slice_get}
use Rattle.irt_base.specs.Wiring.{hop_of}
use Rattle.irt_base.specs.declared.limits.TheConstants.{MAX_DELAY}
use Rattle.irt_base.specs.declared.blocks.Entry.{Entry}
use Rattle.irt_base.specs.declared.plants.Device.{Device}
use Rattle.plan_rules.specs.Way.{IsAnchor}
use Rattle.plan_rules.specs.declared.way.Way.{Way}
use Rattle.irt_window.specs.Plans.{setup_in}
use Rattle.irt_window.specs.declared.net.Net.{Net}
use Rattle.irt_window.specs.declared.links.Parent.{Parent}

-- the least and the greatest bridge delay of a device
pub record HasBridge (net : Net) (device least greatest : ℕ) : Type 0 where
  pub d : Device
  pub held : slice_get net.plant.now.devices device ≡ Some d
  pub least_is : least ≡ d.bmin
  pub greatest_is : greatest ≡ d.bmax

-- the way of an entry that starts by its own FrameSendOffset
pub record StartsByOffset (net : Net) (device : ℕ) (e : Entry) (way : Way) : Type 0 where
  pub anchors : IsAnchor (setup_in net) device e
  pub lo : way.lo ≡ e.send_offset
  pub hi : way.hi ≡ e.send_offset
  pub anchor : way.anchor.0 ≡ device

-- the way of any other: a hop and a bridge delay after the parent
pub record StartsByArrival (net : Net) (device : ℕ) (e : Entry) (hop : ℕ) (from way : Way) : Type 0 where
  pub relays : ¬ IsAnchor (setup_in net) device e
  pub d : Device
  pub held : slice_get net.plant.now.devices device ≡ Some d
  pub lo : way.lo ≡ from.lo + (hop + d.bmin)
  pub hi : way.hi ≡ from.hi + (hop + d.bmax)
  pub anchor : way.anchor ≡ from.anchor

pub record IsBehind (net : Net) (device : ℕ) (e : Entry) (parent : Parent) (from way : Way) : Type 0 where
  pub hop : ℕ
  pub hops : hop_of net.plant.now parent.device.0 parent.port.0 ≡ Some hop
  pub near : hop ≤ 3 * MAX_DELAY
  pub parent_is : way.parent ≡ parent.device
  pub port_is : way.port ≡ parent.port
  pub earliest : way.earliest ≡ from.lo + hop
  pub latest : way.latest ≡ from.hi + hop
  pub starts : StartsByOffset net device e way ⊎ StartsByArrival net device e hop from way
