-- The sendings, anchors and arrivals of a frame, by its stops. Times are ns.
use Rattle.std.specs.Prelude.{◌≡◌, ◌≢◌, ℕ, ◌+◌, ◌*◌, ◌<◌, ◌≤◌, ◌⊎◌, List, length, AllPairs, Contains, Option, Some, None, IfSome, IsBitSet, slice_get}
use Rattle.irt_base.specs.Cycle.{guard_time}
use Rattle.irt_base.specs.declared.limits.TheConstants.{MAX_DEVICES, MAX_DELAY}
use Rattle.irt_base.specs.declared.plants.Device.{Device}
use Rattle.irt_base.specs.declared.plants.Plant.{Plant}
use Rattle.plan_rules.specs.Way.{Leaves}
use Rattle.placement.specs.Layouts.{StandsBefore}
use Rattle.placement.specs.declared.layout.After.{After}
use Rattle.placement.specs.declared.layout.Anchor.{Anchor}
use Rattle.placement.specs.declared.layout.Sending.{Sending}
use Rattle.frame_ways.specs.declared.frame_way.Arrival.{Arrival}
use Rattle.frame_ways.specs.declared.stops.Stop.{Stop}
use Rattle.frame_ways.specs.Stops.{IsStarter, HasStarter, Precedes}

-- what a stop sends by a port
abbrev pub sending_of : Stop → ℕ → Sending
sending_of s port = record {
  anchor = s.anchor;
  device = s.device;
  port = record { 0 = port };
  least = s.least;
  greatest = s.greatest;
}

-- a sending of one of the stops, by a port before a place and port
pub record IsSendingBefore (stops : List Stop) (at port : ℕ) (sending : Sending) : Type 0 where
  pub n : ℕ
  pub by : ℕ
  pub s : Stop
  pub there : slice_get stops n ≡ Some s
  pub before : Precedes n by at port
  pub leaves : Leaves s.entry by
  pub is : sending ≡ sending_of s by

-- the sendings of stops by the ports before a place and port
pub record AreSendingsTo (stops : List Stop) (at port : ℕ) (sendings : List Sending) : Type 0 where
  pub only : (sending : Sending) → Contains sendings sending → IsSendingBefore stops at port sending
  pub all : (n by : ℕ) (s : Stop) → slice_get stops n ≡ Some s → Precedes n by at port → Leaves s.entry by →
      Contains sendings (sending_of s by)
  pub apart : AllPairs (λ (s t : Sending). (s.device.0 ≢ t.device.0) ⊎ (s.port.0 ≢ t.port.0)) sendings

abbrev pub IsSmallArrival : Arrival → Type 0
IsSmallArrival x = x.latest ≤ MAX_DEVICES * (4 * MAX_DELAY)

-- The stop's device is one of the plant, and the frame comes by the offset of an anchor before it.
pub record IsUsableStop (plant : Plant) (stops : List Stop) (n : ℕ) (s : Stop) : Type 0 where
  pub there : s.device.0 < length plant.devices
  pub small : IfSome s.arrival IsSmallArrival
  pub starter : IfSome s.arrival (λ x. HasStarter plant stops n x.anchor.0)

-- The device may start when it surely has what comes: behind an arrival at 800 at the latest, a bridge of at most 3000
-- and a guard of 2000 the gap is 5800.
abbrev pub HasAfter : Plant → Stop → Option After → Type 0
HasAfter plant s None = s.arrival ≡ None
HasAfter plant s (Some f) = (x : Arrival) × (d : Device) × (s.arrival ≡ Some x) ×
    (slice_get plant.devices s.device.0 ≡ Some d) × (f.anchor ≡ x.anchor) × (f.gap ≡ x.latest + d.bmax + guard_time plant.window)

-- an anchor by one of the first so many stops
pub record IsAnchorBefore (plant : Plant) (stops : List Stop) (at : ℕ) (anchors : List Anchor) (k : ℕ)
    (a : Anchor) : Type 0 where
  pub n : ℕ
  pub s : Stop
  pub there : slice_get stops n ≡ Some s
  pub before : n < at
  pub starts : IsStarter plant s.device.0 s.entry
  pub device : a.device ≡ s.device
  pub after : HasAfter plant s a.after
  pub starter : IfSome a.after (λ f. StandsBefore anchors k f.anchor.0)

-- the anchors of the first so many stops
pub record AreAnchorsTo (plant : Plant) (stops : List Stop) (at : ℕ) (anchors : List Anchor) : Type 0 where
  pub only : (k : ℕ) (a : Anchor) → slice_get anchors k ≡ Some a → IsAnchorBefore plant stops at anchors k a
  pub all : (n : ℕ) (s : Stop) → slice_get stops n ≡ Some s → n < at → IsStarter plant s.device.0 s.entry →
      StandsBefore anchors (length anchors) s.device.0
  pub once : AllPairs (λ (a b : Anchor). a.device.0 ≢ b.device.0) anchors

-- a device that keeps the frame is so many links away
abbrev pub IsKeptAfter : List Stop → ℕ → Type 0
IsKeptAfter stops hops = (s : Stop) × Contains stops s × IsBitSet s.entry.tx 0 × (s.hops ≡ hops)

-- the greatest such number, or 0
pub record IsMostHops (stops : List Stop) (most : ℕ) : Type 0 where
  pub bound : (hops : ℕ) → IsKeptAfter stops hops → hops ≤ most
  pub some : (most ≡ 0) ⊎ IsKeptAfter stops most

-- a number rises to that of a stop's links, where its device keeps the frame
pub record IsRaised (s : Stop) (old new : ℕ) : Type 0 where
  pub keeps : old ≤ new
  pub bound : IsBitSet s.entry.tx 0 → s.hops ≤ new
  pub some : (new ≡ old) ⊎ (IsBitSet s.entry.tx 0 × (new ≡ s.hops))
