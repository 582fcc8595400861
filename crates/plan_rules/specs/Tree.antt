-- The entries of a frame as one tree, from its provider to its consumers.
use Rattle.std.specs.Prelude.{◌≡◌, ◌≢◌, ℕ, ◌≤◌, ◌==◌, ◌⊎◌, ◌↔◌, Option, Some, IsSome, find, Contains, IsBitSet}
use Rattle.irt_base.specs.declared.blocks.Entry.{Entry}
use Rattle.irt_base.specs.declared.plants.Demand.{Demand}
use Rattle.irt_base.specs.declared.plants.Plant.{Plant}
use Rattle.irt_base.specs.Wiring.{peer_of}
use Rattle.plan_rules.specs.Way.{Setup, entry_at, Leaves, IsParent}

-- the demand that asks for a frame
abbrev pub demand_of : Plant → ℕ → Option Demand
demand_of plant frame = find (λ (d : Demand). d.frame.0 == frame) plant.demands

-- the device is one of the demand's consumers
abbrev pub Consumes : Demand → ℕ → Type 0
Consumes demand device = Contains demand.consumers (record { 0 = device })

-- A finite chain of parents leads from a device to the provider.
pub data IsReached (setup : Setup) (provider frame : ℕ) : ℕ → Type 0 where
  here : IsReached setup provider frame provider
  through : (device : ℕ) (e : Entry) (parent port : ℕ) → entry_at setup device frame ≡ Some e →
      IsParent setup frame device e parent port → IsReached setup provider frame parent → IsReached setup provider frame device

-- The link of a sending port leads to a device that receives the frame there.
pub record IsReceiver (setup : Setup) (frame device port : ℕ) : Type 0 where
  pub receiver : ℕ
  pub e : Entry
  pub stands : entry_at setup receiver frame ≡ Some e
  pub received : 1 ≤ e.rx_port
  pub leads : peer_of setup.plant device port ≡ Some (record { 0 = receiver }, record { 0 = e.rx_port })

-- What the tree of a demand asks of a device's entry.
pub record IsTreeEntry (setup : Setup) (demand : Demand) (device : ℕ) (e : Entry) : Type 0 where
  -- the provider, and it alone, has the frame from nobody
  pub provided : (device ≡ demand.provider.0) ↔ (e.rx_port ≡ 0)
  -- somebody receives it at the other end of each sending port
  pub sent : (port : ℕ) → Leaves e port → IsReceiver setup demand.frame.0 device port
  -- somebody sends it to the receiving port
  pub received : 1 ≤ e.rx_port → (parent port : ℕ) × IsParent setup demand.frame.0 device e parent port
  -- the consumers, and they alone, keep it
  pub consumed : IsBitSet e.tx 0 ↔ Consumes demand device
  -- it goes somewhere
  pub used : e.tx ≢ 0
  pub reached : IsReached setup demand.provider.0 demand.frame.0 device

-- Rule V2 at a device and a frame: the entries of the frame are one tree from its provider to its consumers.
pub record IsInTree (setup : Setup) (device frame : ℕ) : Type 0 where
  pub each : (e : Entry) → entry_at setup device frame ≡ Some e →
      (demand : Demand) × (demand_of setup.plant frame ≡ Some demand) × IsTreeEntry setup demand device e
  pub present : (demand : Demand) → demand_of setup.plant frame ≡ Some demand →
      (device ≡ demand.provider.0) ⊎ Consumes demand device → IsSome (entry_at setup device frame)

-- Rule V2 everywhere.
abbrev pub AreTrees : Setup → Type 0
AreTrees setup = (device frame : ℕ) → IsInTree setup device frame
