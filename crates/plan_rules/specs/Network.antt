-- What a network that plays accepted blocks rests on, cycle by cycle.
use Rattle.std.specs.Prelude.{◌≡◌, ◌↔◌, ℕ, ◌+◌, ◌*◌, ◌≤◌, List, Some, All, slice_get, ℤ, pos, ◌+ℤ◌, ◌≤ℤ◌, IsBitSet}
use Rattle.irt_base.specs.Cycle.{IsDue, wire_time, cycle_time}
use Rattle.irt_base.specs.Valid.{IsEntry}
use Rattle.irt_base.specs.Wiring.{peer_of}
use Rattle.irt_base.specs.declared.limits.TheConstants.{MAX_PORTS}
use Rattle.irt_base.specs.declared.blocks.Bundle.{Bundle}
use Rattle.irt_base.specs.declared.blocks.Entry.{Entry}
use Rattle.irt_base.specs.declared.plants.Demand.{Demand}
use Rattle.irt_base.specs.declared.plants.Plant.{Plant}
use Rattle.plan_rules.specs.World.{WorldRow, IsInStep, IsUncut}
use Rattle.plan_rules.specs.Way.{Setup, entry_at, Leaves, IsAbsolute, IsParent, IsLive, IsStart, IsInRange}
use Rattle.plan_rules.specs.Tree.{demand_of, Consumes}
use Rattle.plan_rules.specs.Arrival.{Arrival, IsArrival, Delivery, IsDelivery}
use Rattle.plan_rules.specs.Once.{ExactlyOne}
use Rattle.plan_rules.specs.Places.{IsAccepted}
use Rattle.plan_rules.specs.Plan.{IsPlan, setup_of}

-- ---- entries

-- What an entry of a device is: valid, of its frame, which is demanded; and kept by consumers alone.
pub record IsDemandedEntry (setup : Setup) (device frame : ℕ) (e : Entry) : Type 0 where
  pub demand : Demand
  pub demanded : demand_of setup.plant frame ≡ Some demand
  pub kept : IsBitSet e.tx 0 ↔ Consumes demand device
  pub named : e.frame.0 ≡ frame
  pub valid : IsEntry e
  pub ports : (port : ℕ) → Leaves e port → port ≤ MAX_PORTS

abbrev pub EntriesAreDemanded : Setup → Type 0
EntriesAreDemanded setup = (device frame : ℕ) (e : Entry) → entry_at setup device frame ≡ Some e → IsDemandedEntry setup device frame e

-- one length, due in the same cycles
pub record AreAlike (d e : Entry) : Type 0 where
  pub length : e.data_length ≡ d.data_length
  pub ratio : e.ratio ≡ d.ratio
  pub phase : e.phase ≡ d.phase

-- The entries of a frame at any two devices are alike.
abbrev pub EntriesAreAlike : Setup → Type 0
EntriesAreAlike setup = (frame u v : ℕ) (d e : Entry) → entry_at setup u frame ≡ Some d → entry_at setup v frame ≡ Some e → AreAlike d e

-- ---- starts and arrivals

-- A device sends a frame by a port in cycle k from this time on: what an occupation says of its start, in one row.
pub record IsSentAt (setup : Setup) (row : WorldRow) (k device port frame : ℕ) (start : ℤ) : Type 0 where
  pub entry : Entry
  pub stands : entry_at setup device frame ≡ Some entry
  pub due : IsDue k entry.ratio entry.phase
  pub leaves : Leaves entry port
  pub live : IsLive setup row frame device
  pub starts : IsStart setup row k frame device start

-- What is sent over a link that is not cut arrives at its other end, once.
abbrev pub ArrivesOnce : Setup → Type 0
ArrivesOnce setup = (row : WorldRow) (k device port frame far gate : ℕ) (sent : ℤ) → (is : IsSentAt setup row k device port frame sent) →
    IsUncut setup.plant row device port → peer_of setup.plant device port ≡ Some (record { 0 = far }, record { 0 = gate }) →
    ExactlyOne (λ (start : ℤ). IsArrival setup row is.entry (record { cycle = k; device = far; port = gate; frame = frame; start = start }))

-- The receiver's entry of what a sender's port leads to its own: it has the frame from there, and is alike.
pub record IsMet (setup : Setup) (from : Entry) (sender port device gate frame : ℕ) : Type 0 where
  pub e : Entry
  pub stands : entry_at setup device frame ≡ Some e
  pub port_is : e.rx_port ≡ gate
  pub comes : IsParent setup frame device e sender port
  pub alike : AreAlike from e

-- Whatever arrives is met.
abbrev pub MeetsArrivals : Setup → Type 0
MeetsArrivals setup = (row : WorldRow) (from : Entry) (a : Arrival) (is : IsArrival setup row from a) →
    IsMet setup from is.sender is.port a.device a.port a.frame

-- A device sends on by a port what has begun to arrive, and not before: by its own offset in absolute time, else
-- its bridge delay later.
pub record IsSentOn (setup : Setup) (row : WorldRow) (a : Arrival) (e : Entry) (port : ℕ) : Type 0 where
  pub start : ℤ
  pub sent : IsSentAt setup row a.cycle a.device port a.frame start
  pub absolute : IsAbsolute setup.plant a.device → start ≡ (pos (a.cycle * cycle_time setup.plant.factor + e.send_offset) +ℤ row.error a.device)
  pub relative : ¬ IsAbsolute setup.plant a.device → start ≡ (a.start +ℤ pos (row.bridge a.device a.frame))
  pub later : a.start ≤ℤ start

-- A device in step sends on what arrives by each port of its entry.
abbrev pub SendsOn : Setup → Type 0
SendsOn setup = (row : WorldRow) → IsInRange setup row → (from : Entry) (a : Arrival) (e : Entry) (port : ℕ) → IsArrival setup row from a →
    IsInStep setup.plant row a.device → entry_at setup a.device a.frame ≡ Some e → Leaves e port → IsSentOn setup row a e port

-- A delivery is an arrival that a device in step has whole: a wire time after it begins.
pub record IsWholeArrival (setup : Setup) (world : List WorldRow) (d : Delivery) : Type 0 where
  pub row : WorldRow
  pub from : Entry
  pub port : ℕ
  pub start : ℤ
  pub in_cycle : slice_get world d.cycle ≡ Some row
  pub arrives : IsArrival setup row from (record { cycle = d.cycle; device = d.device; port = port; frame = d.frame; start = start })
  pub in_step : IsInStep setup.plant row d.device
  pub ends : d.end ≡ (start +ℤ pos (wire_time from.data_length))

-- What arrives at devices in step is delivered where their entries keep it, and nothing else is.
pub record DeliversArrivals (setup : Setup) (world : List WorldRow) : Type 0 where
  pub each : (row : WorldRow) (from : Entry) (a : Arrival) (e : Entry) → slice_get world a.cycle ≡ Some row → IsArrival setup row from a →
      IsInStep setup.plant row a.device → entry_at setup a.device a.frame ≡ Some e → IsBitSet e.tx 0 →
      IsDelivery setup world (record { cycle = a.cycle; device = a.device; frame = a.frame; end = a.start +ℤ pos (wire_time from.data_length) })
  pub only : (d : Delivery) → IsDelivery setup world d → IsWholeArrival setup world d

-- ---- times

-- A time that belongs to cycle k, in true ns: from a window before the cycle begins to a window before it ends. With
-- cycles of 1000000 and a window of 1000 those of cycle 1 are 999000 to 1999000.
pub record IsNearCycle (plant : Plant) (k : ℕ) (at : ℤ) : Type 0 where
  pub low : pos (k * cycle_time plant.factor) ≤ℤ (at +ℤ pos plant.window)
  pub high : (at +ℤ pos plant.window) ≤ℤ pos ((k + 1) * cycle_time plant.factor)

-- a frame of so many bytes that is on the wire from a start on, near its cycle from begin to end
pub record StaysNear (plant : Plant) (k bytes : ℕ) (start : ℤ) : Type 0 where
  pub begin : IsNearCycle plant k start
  pub end : IsNearCycle plant k (start +ℤ pos (wire_time bytes))

-- What is sent, arrives and is delivered stays near its cycle.
pub record AllNear (setup : Setup) : Type 0 where
  pub sent : (row : WorldRow) → IsInRange setup row → (k device port frame : ℕ) (start : ℤ) → (is : IsSentAt setup row k device port frame start) →
      StaysNear setup.plant k is.entry.data_length start
  pub arrives : (row : WorldRow) → IsInRange setup row → (from : Entry) (a : Arrival) → IsArrival setup row from a →
      StaysNear setup.plant a.cycle from.data_length a.start
  pub delivered : (world : List WorldRow) → All (IsInRange setup) world → (d : Delivery) → IsDelivery setup world d → IsNearCycle setup.plant d.cycle d.end

-- A fact of all accepted plans.
abbrev pub ForAccepted : (Setup → Type 0) → Type 0
ForAccepted Fact = (plant : Plant) (bundles : List Bundle) → IsPlan plant bundles → IsAccepted plant bundles → Fact (setup_of plant bundles)
