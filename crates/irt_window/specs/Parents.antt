-- Who sends a frame to a device, and who receives it, as answers.
use Rattle.std.specs.Prelude.{◌≡◌, ℕ, ◌≤◌, Option, Some, None}
use Rattle.irt_base.specs.declared.blocks.Entry.{Entry}
use Rattle.plan_rules.specs.Way.{Setup, entry_at, Leaves, IsParent}
use Rattle.irt_window.specs.Plans.{setup_in, Stands}
use Rattle.irt_window.specs.declared.net.Net.{Net}
use Rattle.irt_window.specs.declared.links.Parent.{Parent}

-- the device has an entry of the frame that leaves by this port
pub record Sends (setup : Setup) (device port frame : ℕ) : Type 0 where
  pub e : Entry
  pub stands : entry_at setup device frame ≡ Some e
  pub leaves : Leaves e port

-- the device has an entry of the frame that comes from this port
pub record Receives (setup : Setup) (device port frame : ℕ) : Type 0 where
  pub e : Entry
  pub stands : entry_at setup device frame ≡ Some e
  pub received : 1 ≤ e.rx_port
  pub here : e.rx_port ≡ port

-- a sender, with the place of its entry
pub record IsSender (net : Net) (device port frame : ℕ) (r : Parent) : Type 0 where
  pub same_device : r.device.0 ≡ device
  pub same_port : r.port.0 ≡ port
  pub from : Entry
  pub placed : Stands net.bundles.now device r.place from
  pub named : from.frame.0 ≡ frame
  pub leaves : Leaves from port

abbrev pub IsSenderAnswer : Net → ℕ → ℕ → ℕ → Option Parent → Type 0
IsSenderAnswer net device port frame None = ¬ Sends (setup_in net) device port frame
IsSenderAnswer net device port frame (Some r) = IsSender net device port frame r

-- a parent, with the place of its entry
pub record HasParent (net : Net) (device : ℕ) (e : Entry) (r : Parent) : Type 0 where
  pub comes : IsParent (setup_in net) e.frame.0 device e r.device.0 r.port.0
  pub from : Entry
  pub placed : Stands net.bundles.now r.device.0 r.place from
  pub named : from.frame.0 ≡ e.frame.0

abbrev pub IsParentAnswer : Net → ℕ → Entry → Option Parent → Type 0
IsParentAnswer net device e None = (parent port : ℕ) → ¬ IsParent (setup_in net) e.frame.0 device e parent port
IsParentAnswer net device e (Some r) = HasParent net device e r
