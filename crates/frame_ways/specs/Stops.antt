-- The devices to which a frame comes, each after its parent. Times are ns after the offset of an anchor.
use Rattle.std.specs.Prelude.{◌≡◌, ◌≢◌, ℕ, zero, suc, ◌+◌, ◌*◌, ◌^◌, ◌<◌, ◌≤◌, ◌⊎◌, List, [], ◌∷◌, ◌++◌, length, AllPairs, Option, Some, None, slice_get}
use Rattle.irt_base.specs.Wiring.{peer_of, hop_of}
use Rattle.irt_base.specs.declared.blocks.Entry.{Entry}
use Rattle.irt_base.specs.declared.limits.TheConstants.{MAX_DELAY}
use Rattle.irt_base.specs.declared.numbers.DevId.{DevId}
use Rattle.irt_base.specs.declared.numbers.PortNo.{PortNo}
use Rattle.irt_base.specs.declared.plants.Device.{Device}
use Rattle.irt_base.specs.declared.plants.Plant.{Plant}
use Rattle.plan_rules.specs.Frames.{IsForwarded}
use Rattle.plan_rules.specs.SendWindow.{SendWindow, HasWindow}
use Rattle.plan_rules.specs.Tree.{IsReceiver}
use Rattle.plan_rules.specs.Way.{Setup, entry_at, Leaves, IsAnchor, IsParent}
use Rattle.fit_rules.specs.declared.frame_plan.FramePlan.{FramePlan}
use Rattle.fit_rules.specs.Delays.{IsAtZero}
use Rattle.fit_rules.specs.Shape.{alone, entry_of}
use Rattle.frame_ways.specs.declared.frame_way.Arrival.{Arrival}
use Rattle.frame_ways.specs.declared.stops.Stop.{Stop}

-- the device starts the frame by an offset of its own, whatever else it sends
abbrev pub IsStarter : Plant → ℕ → Entry → Type 0
IsStarter plant device e = IsAnchor (record { plant = plant; blocks = [] }) device e

-- The entries of a frame, with offsets 0, which lead from device to device.
pub record IsEntryTree (plant : Plant) (base : FramePlan) : Type 0 where
  pub count : length base.entries ≡ length plant.devices
  pub frames : (device : ℕ) (e : Entry) → entry_of base device ≡ Some e → e.frame ≡ base.frame
  pub zero : IsAtZero base
  pub small : (device : ℕ) (e : Entry) → entry_of base device ≡ Some e → e.tx < 2 ^ 8
  pub sent : (device port : ℕ) (e : Entry) → entry_of base device ≡ Some e → Leaves e port →
      IsReceiver (alone plant base) base.frame.0 device port

-- the device has the frame from nobody
abbrev pub IsProvided : FramePlan → ℕ → Type 0
IsProvided base device = (e : Entry) × (entry_of base device ≡ Some e) × (e.rx_port ≡ 0)

-- the device has a stop
abbrev pub IsListed : List Stop → ℕ → Type 0
IsListed stops device = (n : ℕ) × (s : Stop) × (slice_get stops n ≡ Some s) × (s.device.0 ≡ device)

-- a stop is added where its device has none
abbrev pub IsAdded : Stop → List Stop → List Stop → Type 0
IsAdded s old new =
    ((¬ IsListed old s.device.0) × (new ≡ old ++ s ∷ [])) ⊎ (IsListed old s.device.0 × (new ≡ old))

-- the stop of the provider
pub record IsFirstStop (base : FramePlan) (provider : DevId) (s : Stop) : Type 0 where
  pub device : s.device ≡ provider
  pub stands : entry_of base provider.0 ≡ Some s.entry
  pub provided : s.entry.rx_port ≡ 0
  pub arrival : s.arrival ≡ None
  pub anchor : s.anchor ≡ provider
  pub least : s.least ≡ 0
  pub greatest : s.greatest ≡ 0
  pub hops : s.hops ≡ 0

-- It starts by its own offset.
pub record StartsAtZero (plant : Plant) (s : Stop) : Type 0 where
  pub starts : IsStarter plant s.device.0 s.entry
  pub anchor : s.anchor ≡ s.device
  pub least : s.least ≡ 0
  pub greatest : s.greatest ≡ 0

-- It starts a hop and a bridge delay after another one. With an anchor before it, a hop of 800 and a bridge of 1000 to
-- 3000, that is 1800 to 3800.
pub record StartsBehind (plant : Plant) (from : Stop) (hop : ℕ) (s : Stop) : Type 0 where
  pub relays : ¬ IsStarter plant s.device.0 s.entry
  pub d : Device
  pub held : slice_get plant.devices s.device.0 ≡ Some d
  pub ordered : d.bmin ≤ d.bmax
  pub small : d.bmax ≤ MAX_DELAY
  pub anchor : s.anchor ≡ from.anchor
  pub least : s.least ≡ from.least + (hop + d.bmin)
  pub greatest : s.greatest ≡ from.greatest + (hop + d.bmax)

pub record IsStopBehind (plant : Plant) (from : Stop) (hop : ℕ) (e : Entry) (x : Arrival) (s : Stop) : Type 0 where
  pub device : s.device ≡ x.device
  pub entry : s.entry ≡ e
  pub arrival : s.arrival ≡ Some x
  pub starts : StartsAtZero plant s ⊎ StartsBehind plant from hop s
  pub hops : s.hops ≡ from.hops + 1

-- the stop to which another one sends by a port
pub record IsNextStop (plant : Plant) (base : FramePlan) (from : Stop) (port : ℕ) (s : Stop) : Type 0 where
  pub hop : ℕ
  pub hops : hop_of plant from.device.0 port ≡ Some hop
  pub near : hop ≤ 3 * MAX_DELAY
  pub x : Arrival
  pub over : peer_of plant from.device.0 port ≡ Some (x.device, x.port)
  pub stands : entry_of base x.device.0 ≡ Some s.entry
  pub here : s.entry.rx_port ≡ x.port.0
  pub from_one : 1 ≤ x.port.0
  pub anchor : x.anchor ≡ from.anchor
  pub latest : x.latest ≡ from.greatest + hop
  pub behind : IsStopBehind plant from hop s.entry x s

-- when the stop's device sends
abbrev pub stop_window : Stop → SendWindow
stop_window s = record { lo = s.least; hi = s.greatest; anchor = s.anchor.0 }

-- so many parents lead from the device to the provider
abbrev pub HasLinks : Setup → ℕ → ℕ → ℕ → Type 0
HasLinks setup frame zero device = (e : Entry) × (entry_at setup device frame ≡ Some e) × (e.rx_port ≡ 0)
HasLinks setup frame (suc links) device =
    (e : Entry) × (parent : ℕ) × (port : ℕ) × (entry_at setup device frame ≡ Some e) ×
    IsParent setup frame device e parent port × HasLinks setup frame links parent

-- one of the first so many stops starts by its own offset
pub record HasStarter (plant : Plant) (stops : List Stop) (count anchor : ℕ) : Type 0 where
  pub n : ℕ
  pub s : Stop
  pub before : n < count
  pub there : slice_get stops n ≡ Some s
  pub here : s.device.0 ≡ anchor
  pub starts : IsStarter plant s.device.0 s.entry

-- The frame comes to a stop so, from one before it: behind starts of 1800 to 3800 and a hop of 800, 4600 at the latest.
pub record ArrivesAs (plant : Plant) (base : FramePlan) (stops : List Stop) (n : ℕ) (s : Stop)
    (x : Arrival) : Type 0 where
  pub hop : ℕ
  pub w : SendWindow
  pub device : x.device ≡ s.device
  pub comes : IsForwarded (alone plant base) s.device.0 base.frame.0 s.entry hop w
  pub here : s.entry.rx_port ≡ x.port.0
  pub hangs : w.anchor ≡ x.anchor.0
  pub is : x.latest ≡ w.hi + hop
  pub starter : HasStarter plant stops n x.anchor.0
  pub small : x.latest + MAX_DELAY ≤ n * (4 * MAX_DELAY)

abbrev pub MayArriveAs : Plant → FramePlan → List Stop → ℕ → Stop → Option Arrival → Type 0
MayArriveAs plant base stops n s None = s.entry.rx_port ≡ 0
MayArriveAs plant base stops n s (Some x) = ArrivesAs plant base stops n s x

-- a stop at a place of the list
pub record IsStopAt (plant : Plant) (base : FramePlan) (stops : List Stop) (n : ℕ) (s : Stop) : Type 0 where
  pub stands : entry_of base s.device.0 ≡ Some s.entry
  pub window : HasWindow (alone plant base) base.frame.0 s.device.0 (stop_window s)
  pub ordered : s.least ≤ s.greatest
  pub small : s.greatest ≤ n * (4 * MAX_DELAY)
  pub links : HasLinks (alone plant base) base.frame.0 s.hops s.device.0
  pub few : s.hops ≤ n
  pub starter : HasStarter plant stops (n + 1) s.anchor.0
  pub comes : MayArriveAs plant base stops n s s.arrival

-- Of a place and a port and another place and port, the first ones come first.
abbrev pub Precedes : ℕ → ℕ → ℕ → ℕ → Type 0
Precedes n port other by = (n < other) ⊎ ((n ≡ other) × (port < by))

abbrev pub StopsDiffer : List Stop → Type 0
StopsDiffer stops = AllPairs (λ (s t : Stop). s.device.0 ≢ t.device.0) stops

-- The stops, where the ports before a place and port are done.
pub record AreStopsTo (plant : Plant) (base : FramePlan) (stops : List Stop) (at port : ℕ) : Type 0 where
  pub each : (n : ℕ) (s : Stop) → slice_get stops n ≡ Some s → IsStopAt plant base stops n s
  pub apart : StopsDiffer stops
  pub first : (s : Stop) × (slice_get stops 0 ≡ Some s) × (s.entry.rx_port ≡ 0)
  pub next : (n by : ℕ) (s : Stop) (far : DevId × PortNo) → slice_get stops n ≡ Some s → Precedes n by at port →
      Leaves s.entry by → peer_of plant s.device.0 by ≡ Some far → IsListed stops far.0.0
