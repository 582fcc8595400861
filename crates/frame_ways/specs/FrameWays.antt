-- The way of a demand's frame, with all offsets 0: so its times are those after the offset of an anchor, in ns.
use Rattle.std.specs.Prelude.{◌≡◌, ℕ, ◌+◌, ◌<◌, ◌≤◌, Some, None, Option, All, Contains}
use Rattle.irt_base.specs.Cycle.{wire_time}
use Rattle.irt_base.specs.Valid.{IsWithin}
use Rattle.irt_base.specs.declared.blocks.Entry.{Entry}
use Rattle.irt_base.specs.declared.limits.TheConstants.{MAX_DEVICES, MAX_PORTS}
use Rattle.irt_base.specs.declared.plants.Demand.{Demand}
use Rattle.irt_base.specs.declared.plants.Plant.{Plant}
use Rattle.irt_route.specs.Trees.{Parents}
use Rattle.plan_rules.specs.Frames.{IsForwarded}
use Rattle.plan_rules.specs.SendWindow.{SendWindow}
use Rattle.plan_rules.specs.Way.{IsAnchor}
use Rattle.fit_rules.specs.declared.frame_plan.FramePlan.{FramePlan}
use Rattle.fit_rules.specs.Delays.{IsAtZero, IsDelayed, IsReadyAfter}
use Rattle.fit_rules.specs.Order.{HasFarthest}
use Rattle.fit_rules.specs.Shape.{alone, entry_of, HasShape}
use Rattle.placement.specs.Layouts.{IsLayout}
use Rattle.placement.specs.declared.layout.TheConstants.{MAX_TIME}
use Rattle.placement.specs.declared.layout.After.{After}
use Rattle.placement.specs.declared.layout.Anchor.{Anchor}
use Rattle.placement.specs.declared.layout.Layout.{Layout}
use Rattle.placement.specs.declared.layout.Sending.{Sending}
use Rattle.frame_ways.specs.declared.frame_way.Arrival.{Arrival}
use Rattle.frame_ways.specs.declared.frame_way.FrameWay.{FrameWay}

-- the entries of the way, as a plan
abbrev pub base_of : FrameWay → FramePlan
base_of way = record { frame = way.frame; entries = way.entries }

-- The device sends so by this port, by the offset of its anchor.
abbrev pub IsSendingOf : Plant → FramePlan → Sending → Type 0
IsSendingOf plant base s = IsDelayed plant base s.anchor.0 s.device.0 s.port.0 s.least s.greatest

-- The sendings are those of the frame.
pub record AreSendings (plant : Plant) (base : FramePlan) (layout : Layout) : Type 0 where
  pub only : (s : Sending) → Contains layout.sendings s → IsSendingOf plant base s
  pub all : (anchor device port least greatest : ℕ) → IsDelayed plant base anchor device port least greatest →
      (s : Sending) × Contains layout.sendings s × (s.anchor.0 ≡ anchor) × (s.device.0 ≡ device) ×
      (s.port.0 ≡ port) × (s.least ≡ least) × (s.greatest ≡ greatest)

-- The provider starts after no other device, a forwarder when it surely has the frame.
abbrev pub IsStartedAfter : Plant → FramePlan → ℕ → Entry → Option After → Type 0
IsStartedAfter plant base device e None = e.rx_port ≡ 0
IsStartedAfter plant base device e (Some f) = (1 ≤ e.rx_port) × IsReadyAfter plant base device f.anchor.0 f.gap

-- The device starts the frame by an offset of its own.
pub record IsAnchorOf (plant : Plant) (base : FramePlan) (a : Anchor) : Type 0 where
  pub e : Entry
  pub stands : entry_of base a.device.0 ≡ Some e
  pub starts : IsAnchor (alone plant base) a.device.0 e
  pub after : IsStartedAfter plant base a.device.0 e a.after

-- The anchors are those of the frame.
pub record AreAnchors (plant : Plant) (base : FramePlan) (layout : Layout) : Type 0 where
  pub only : (a : Anchor) → Contains layout.anchors a → IsAnchorOf plant base a
  pub all : (device : ℕ) (e : Entry) → entry_of base device ≡ Some e → IsAnchor (alone plant base) device e →
      (a : Anchor) × Contains layout.anchors a × (a.device.0 ≡ device)

-- The frame comes so to the device. Behind a start of at most 3800 and a hop of 800 it comes at most 4600 after the
-- offset.
pub record IsArrivalOf (plant : Plant) (base : FramePlan) (x : Arrival) : Type 0 where
  pub e : Entry
  pub hop : ℕ
  pub w : SendWindow
  pub comes : IsForwarded (alone plant base) x.device.0 base.frame.0 e hop w
  pub here : e.rx_port ≡ x.port.0
  pub hangs : w.anchor ≡ x.anchor.0
  pub is : x.latest ≡ w.hi + hop

pub record IsValidArrival (x : Arrival) : Type 0 where
  pub device : x.device.0 < MAX_DEVICES
  pub port : IsWithin 1 MAX_PORTS x.port.0
  pub anchor : x.anchor.0 < MAX_DEVICES
  pub small : x.latest ≤ MAX_TIME

-- The arrivals are those of the frame.
pub record AreArrivals (plant : Plant) (way : FrameWay) : Type 0 where
  pub only : (x : Arrival) → Contains way.arrivals x → IsArrivalOf plant (base_of way) x
  pub all : (device : ℕ) (e : Entry) (hop : ℕ) (w : SendWindow) →
      IsForwarded (alone plant (base_of way)) device way.frame.0 e hop w →
      (x : Arrival) × Contains way.arrivals x × (x.device.0 ≡ device) × (x.port.0 ≡ e.rx_port) ×
      (x.anchor.0 ≡ w.anchor) × (x.latest ≡ w.hi + hop)
  pub valid : All IsValidArrival way.arrivals

-- The way is that of a demand's frame.
pub record IsFrameWay (plant : Plant) (parents : Parents) (demand : Demand) (way : FrameWay) : Type 0 where
  pub shape : HasShape plant parents demand 1 1 (base_of way)
  pub zero : IsAtZero (base_of way)
  pub layout : IsLayout way.layout
  pub wire : way.layout.wire ≡ wire_time demand.length
  pub sendings : AreSendings plant (base_of way) way.layout
  pub anchors : AreAnchors plant (base_of way) way.layout
  pub arrivals : AreArrivals plant way
  pub far : HasFarthest plant demand way.hops
