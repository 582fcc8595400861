-- Rule V2 at a device, in parts.
use Rattle.std.specs.Prelude.{◌≡◌, ◌≢◌, ◌↔◌, ℕ, ◌≤◌, ◌<◌, ◌⊎◌, Option, Some, None, IsBitSet}
use Rattle.irt_base.specs.declared.blocks.Entry.{Entry}
use Rattle.irt_base.specs.declared.plants.Demand.{Demand}
use Rattle.plan_rules.specs.Way.{Setup, Leaves, IsParent}
use Rattle.plan_rules.specs.Tree.{demand_of, Consumes, IsReceiver, IsTreeEntry, IsInTree}

-- a demand wants the device to have an entry of the frame
pub record IsWanted (setup : Setup) (device frame : ℕ) : Type 0 where
  pub demand : Demand
  pub asked : demand_of setup.plant frame ≡ Some demand
  pub part : (device ≡ demand.provider.0) ⊎ Consumes demand device

-- a demand has the entry's frame, and the entry is as its tree asks
abbrev pub HasTree : Setup → ℕ → Entry → Type 0
HasTree setup device e = (demand : Demand) × (demand_of setup.plant e.frame.0 ≡ Some demand) × IsTreeEntry setup demand device e

-- somebody sends the frame to the receiving port, where there is one
abbrev pub IsSent : Setup → ℕ → Entry → Type 0
IsSent setup device e = 1 ≤ e.rx_port → (parent port : ℕ) × IsParent setup e.frame.0 device e parent port

-- what a tree asks of an entry by the device's part in the demand
pub record IsOwn (demand : Demand) (device : ℕ) (e : Entry) : Type 0 where
  pub provided : (device ≡ demand.provider.0) ↔ (e.rx_port ≡ 0)
  pub consumed : IsBitSet e.tx 0 ↔ Consumes demand device
  pub used : e.tx ≢ 0

-- what it asks by those at the other ends of the links
pub record IsLinked (setup : Setup) (device : ℕ) (e : Entry) : Type 0 where
  pub received : (port : ℕ) → Leaves e port → IsReceiver setup e.frame.0 device port
  pub sent : IsSent setup device e

-- what it asks but for the way to the provider
pub record IsPlaced (setup : Setup) (demand : Demand) (device : ℕ) (e : Entry) : Type 0 where
  pub own : IsOwn demand device e
  pub linked : IsLinked setup device e

-- the least frame for which V2 fails at a device, or none where it holds for all
abbrev pub IsLeastFrame : Setup → ℕ → Option ℕ → Type 0
IsLeastFrame setup device None = (frame : ℕ) → IsInTree setup device frame
IsLeastFrame setup device (Some frame) = (¬ IsInTree setup device frame) × ((before : ℕ) → before < frame → IsInTree setup device before)
