-- Trees: the steps of the best walks from a device to others.
use Rattle.std.specs.Prelude.{◌≡◌, ℕ, zero, suc, ◌⊎◌, List, [], ◌∷◌, ◌++◌, length, Option, Some, None, slice_index_or, slice_set}
use Rattle.irt_base.specs.declared.limits.TheConstants.{MAX_DEVICES}
use Rattle.irt_base.specs.declared.numbers.DevId.{DevId}
use Rattle.irt_base.specs.declared.numbers.PortNo.{PortNo}
use Rattle.irt_route.specs.Walks.{Peers, IsWalk, IsBestWalk, far_of}

-- the walk leaves one device by a port, and comes to another
pub record IsStep (peers : Peers) (start : ℕ) (ports : List PortNo) (from : DevId × PortNo) (to : ℕ) : Type 0 where
  pub front : List PortNo
  pub back : List PortNo
  pub split : ports ≡ front ++ from.1 ∷ back
  pub before : IsWalk peers start front from.0.0
  pub far : DevId × PortNo
  pub over : peers from.0.0 from.1.0 ≡ Some far
  pub there : far.0.0 ≡ to

-- a step of the best walk to a device
pub record IsBestStep (peers : Peers) (start end : ℕ) (from : DevId × PortNo) (to : ℕ) : Type 0 where
  pub ports : List PortNo
  pub best : IsBestWalk peers start ports end
  pub step : IsStep peers start ports from to

-- a tree is the union of the best walks from a start to its ends
pub record IsTreeStep (peers : Peers) (start : ℕ) (IsEnd : ℕ → Type 0) (from : DevId × PortNo) (to : ℕ) : Type 0 where
  pub end : ℕ
  pub is_end : IsEnd end
  pub step : IsBestStep peers start end from to

-- a best walk of the tree comes through the device
pub record IsOnTree (peers : Peers) (start : ℕ) (IsEnd : ℕ → Type 0) (device : ℕ) : Type 0 where
  pub end : ℕ
  pub is_end : IsEnd end
  pub front : List PortNo
  pub back : List PortNo
  pub best : IsBestWalk peers start (front ++ back) end
  pub here : IsWalk peers start front device

-- the device and port from which the tree comes to a device
abbrev pub IsTreeParent : Peers → ℕ → (ℕ → Type 0) → ℕ → Option (DevId × PortNo) → Type 0
IsTreeParent peers start IsEnd device None = (device ≡ start) ⊎ (IsOnTree peers start IsEnd device → ⊥)
IsTreeParent peers start IsEnd device (Some from) = IsTreeStep peers start IsEnd from device

-- A table of parents. It has an entry exactly where some step comes to the device.
abbrev pub Parents : Type 0
Parents = List (Option (DevId × PortNo))

abbrev pub parent_at : Parents → ℕ → Option (DevId × PortNo)
parent_at parents device = slice_index_or parents device None

pub record AreParents (Step : DevId × PortNo → ℕ → Type 0) (parents : Parents) : Type 0 where
  pub long : length parents ≡ MAX_DEVICES
  pub sound : (device : ℕ) (from : DevId × PortNo) → parent_at parents device ≡ Some from → Step from device
  pub complete : (device : ℕ) (from : DevId × PortNo) → Step from device → parent_at parents device ≡ None → ⊥

-- the new table has the old one's entries, and the steps of the best walk to a device
pub record GrowsBy (Step : DevId × PortNo → ℕ → Type 0) (old new : Parents) : Type 0 where
  pub long : length new ≡ length old
  pub sound : (device : ℕ) (from : DevId × PortNo) → parent_at new device ≡ Some from → (parent_at old device ≡ Some from) ⊎ Step from device
  pub complete : (device : ℕ) (from : DevId × PortNo) → Step from device → parent_at new device ≡ None → ⊥
  pub keeps : (device : ℕ) → parent_at new device ≡ None → parent_at old device ≡ None

-- one step on
abbrev pub marked : DevId → PortNo → Option (DevId × PortNo) → Parents → Parents
marked at port None parents = parents
marked at port (Some far) parents = slice_set parents far.0.0 (Some (at, port))

-- the steps of a walk, in their order
abbrev pub grown : Peers → DevId → List PortNo → Parents → Parents
grown peers at [] parents = parents
grown peers at (port ∷ rest) parents = grown peers (far_of at (peers at.0 port.0)) rest (marked at port (peers at.0 port.0) parents)

-- parents lead from the device to the start over so many links
abbrev pub IsParentChain : Peers → ℕ → (ℕ → Type 0) → ℕ → ℕ → Type 0
IsParentChain peers start IsEnd zero device = device ≡ start
IsParentChain peers start IsEnd (suc links) device =
    (from : DevId × PortNo) × IsTreeStep peers start IsEnd from device × IsParentChain peers start IsEnd links from.0.0

-- some step of the tree leaves the device
abbrev pub IsLeft : Peers → ℕ → (ℕ → Type 0) → ℕ → Type 0
IsLeft peers start IsEnd device =
    (from : DevId × PortNo) × (to : ℕ) × (from.0.0 ≡ device) × IsTreeStep peers start IsEnd from to
