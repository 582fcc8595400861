-- What the laws of the crates below say, as one premise.
use Rattle.std.specs.Prelude.{◌≡◌, ℕ, ◌⊎◌, List, Some, length}
use Rattle.irt_base.specs.Wiring.{peer_of}
use Rattle.irt_base.specs.declared.numbers.DevId.{DevId}
use Rattle.irt_base.specs.declared.numbers.PortNo.{PortNo}
use Rattle.irt_base.specs.declared.blocks.Entry.{Entry}
use Rattle.irt_base.specs.declared.plants.Plant.{Plant}
use Rattle.irt_route.specs.Routes.{IsAmong}
use Rattle.irt_route.specs.Trees.{IsTreeStep, IsOnTree, IsParentChain, IsLeft}
use Rattle.irt_route.specs.Walks.{Peers}
use Rattle.plant_rules.specs.Meets.{MeetsRules}
use Rattle.plan_rules.specs.Way.{Setup, IsParent}
use Rattle.plan_rules.specs.SendWindow.{SendWindow, HasWindow}

abbrev pub AreMutual : Type 0
AreMutual = (plant : Plant) → MeetsRules plant → (d p v q : ℕ) → peer_of plant d p ≡ Some (record { 0 = v }, record { 0 = q }) →
    peer_of plant v q ≡ Some (record { 0 = d }, record { 0 = p })

abbrev pub OneParent : Type 0
OneParent = (setup : Setup) → MeetsRules setup.plant → (frame device : ℕ) (e : Entry) (u p v q : ℕ) →
    IsParent setup frame device e u p → IsParent setup frame device e v q → (u ≡ v) × (p ≡ q)

abbrev pub OneWindow : Type 0
OneWindow = (setup : Setup) → MeetsRules setup.plant → (frame device : ℕ) (v w : SendWindow) →
    HasWindow setup frame device v → HasWindow setup frame device w → v ≡ w

abbrev pub OneTreeParent : Type 0
OneTreeParent = (peers : Peers) (start : ℕ) (ends : List DevId) (from other : DevId × PortNo) (to : ℕ) →
    IsTreeStep peers start (IsAmong ends) from to → IsTreeStep peers start (IsAmong ends) other to → from ≡ other

abbrev pub NoneToStart : Type 0
NoneToStart = (peers : Peers) (start : ℕ) (ends : List DevId) (from : DevId × PortNo) → IsTreeStep peers start (IsAmong ends) from start → ⊥

abbrev pub HasChains : Type 0
HasChains = (peers : Peers) (start : ℕ) (ends : List DevId) (device : ℕ) → (on : IsOnTree peers start (IsAmong ends) device) →
    IsParentChain peers start (IsAmong ends) (length on.front) device

abbrev pub HasLeaves : Type 0
HasLeaves = (peers : Peers) (start : ℕ) (ends : List DevId) (device : ℕ) → IsOnTree peers start (IsAmong ends) device →
    IsAmong ends device ⊎ IsLeft peers start (IsAmong ends) device

pub record Known : Type 0 where
  pub peers : AreMutual
  pub parents : OneParent
  pub windows : OneWindow
  pub tree_parents : OneTreeParent
  pub start : NoneToStart
  pub chains : HasChains
  pub leaves : HasLeaves

pub known : AreMutual → OneParent → OneWindow → OneTreeParent → NoneToStart → HasChains → HasLeaves → Known
known peers parents windows tree_parents start chains leaves = record {
  peers = peers;
  parents = parents;
  windows = windows;
  tree_parents = tree_parents;
  start = start;
  chains = chains;
  leaves = leaves;
}
