-- Arrivals, and what comes of them: deliveries and drops.
use Rattle.std.specs.Prelude.{◌≡◌, ℕ, ◌+◌, ◌*◌, Some, List, slice_get, ℤ, pos, ◌+ℤ◌, ◌≤ℤ◌}
use Rattle.irt_base.specs.Cycle.{IsDue, wire_time, cycle_time}
use Rattle.irt_base.specs.Wiring.{peer_of, hop_of}
use Rattle.irt_base.specs.declared.blocks.Entry.{Entry}
use Rattle.irt_base.specs.declared.plants.Demand.{Demand}
use Rattle.plan_rules.specs.World.{WorldRow, IsInStep, IsUncut}
use Rattle.plan_rules.specs.Way.{Setup, entry_at, Leaves, IsParent, IsLive, IsStart}
use Rattle.plan_rules.specs.Tree.{demand_of, Consumes}
use Rattle.plan_rules.specs.SendWindow.{SendWindow, HasWindow}

-- A frame that begins to arrive at a device's port, in true ns.
pub record Arrival : Type 0 where
  pub cycle : ℕ
  pub device : ℕ
  pub port : ℕ
  pub frame : ℕ
  pub start : ℤ

-- The blocks and the world say that this frame arrives: a device with a live route sends it over a link that is
-- not cut.
pub record IsArrival (setup : Setup) (row : WorldRow) (from : Entry) (a : Arrival) : Type 0 where
  pub sender : ℕ
  pub port : ℕ
  pub hop : ℕ
  pub sent : ℤ
  pub stands : entry_at setup sender a.frame ≡ Some from
  pub due : IsDue a.cycle from.ratio from.phase
  pub leaves : Leaves from port
  pub live : IsLive setup row a.frame sender
  pub uncut : IsUncut setup.plant row sender port
  pub leads : peer_of setup.plant sender port ≡ Some (record { 0 = a.device }, record { 0 = a.port })
  pub hops : hop_of setup.plant sender port ≡ Some hop
  pub starts : IsStart setup row a.cycle a.frame sender sent
  pub comes : a.start ≡ (sent +ℤ pos hop)

-- A device drops what arrives while it is not in step.
abbrev pub IsDrop : Setup → WorldRow → Entry → Arrival → Type 0
IsDrop setup row from a = IsArrival setup row from a × ¬ IsInStep setup.plant row a.device

-- A frame that has come to a consumer, with the end of its arrival in true ns.
pub record Delivery : Type 0 where
  pub cycle : ℕ
  pub device : ℕ
  pub frame : ℕ
  pub end : ℤ

-- The blocks and the world say that this delivery takes place. World rows stand by cycle.
pub record IsDelivery (setup : Setup) (world : List WorldRow) (d : Delivery) : Type 0 where
  pub row : WorldRow
  pub demand : Demand
  pub e : Entry
  pub parent : ℕ
  pub port : ℕ
  pub hop : ℕ
  pub sent : ℤ
  pub in_cycle : slice_get world d.cycle ≡ Some row
  pub demanded : demand_of setup.plant d.frame ≡ Some demand
  pub consumed : Consumes demand d.device
  pub stands : entry_at setup d.device d.frame ≡ Some e
  pub due : IsDue d.cycle e.ratio e.phase
  pub live : IsLive setup row d.frame d.device
  pub comes : IsParent setup d.frame d.device e parent port
  pub hops : hop_of setup.plant parent port ≡ Some hop
  pub starts : IsStart setup row d.cycle d.frame parent sent
  pub ends : d.end ≡ (sent +ℤ pos (hop + wire_time e.data_length))

-- By when, in ns of a cycle, a receiver has the frame whole: the parent's latest start, the hop, the time on the
-- wire, and the window.
pub record IsPlanned (setup : Setup) (device frame planned : ℕ) : Type 0 where
  pub e : Entry
  pub parent : ℕ
  pub port : ℕ
  pub hop : ℕ
  pub window : SendWindow
  pub stands : entry_at setup device frame ≡ Some e
  pub comes : IsParent setup frame device e parent port
  pub hops : hop_of setup.plant parent port ≡ Some hop
  pub sends : HasWindow setup frame parent window
  pub is : planned ≡ window.hi + hop + wire_time e.data_length + setup.plant.window

-- A delivery comes by its planned time.
abbrev pub IsInTime : Setup → Delivery → Type 0
IsInTime setup d = (planned : ℕ) × IsPlanned setup d.device d.frame planned ×
    (d.end ≤ℤ pos (d.cycle * cycle_time setup.plant.factor + planned))
