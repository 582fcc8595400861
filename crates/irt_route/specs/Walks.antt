-- Walks along links, as lists of the ports by which they leave their devices.
use Rattle.std.specs.Prelude.{◌≡◌, ℕ, ◌<◌, ◌≤◌, ◌⊎◌, List, [], ◌∷◌, length, Option, Some, None}
use Rattle.irt_base.specs.declared.numbers.DevId.{DevId}
use Rattle.irt_base.specs.declared.numbers.PortNo.{PortNo}

-- the device and port at the other end of a port, as `peer_of` of a plant
abbrev pub Peers : Type 0
Peers = ℕ → ℕ → Option (DevId × PortNo)

-- leaving by these ports, a walk from the start ends at this device
abbrev pub IsWalk : Peers → ℕ → List PortNo → ℕ → Type 0
IsWalk peers start [] end = start ≡ end
IsWalk peers start (port ∷ rest) end =
    (far : DevId × PortNo) × (peers start port.0 ≡ Some far) × IsWalk peers far.0.0 rest end

-- the first port in which the lists differ is less in the first list
abbrev pub IsBefore : List PortNo → List PortNo → Type 0
IsBefore [] others = ⊥
IsBefore (port ∷ rest) [] = ⊥
IsBefore (port ∷ rest) (other ∷ others) = (port.0 < other.0) ⊎ ((port.0 ≡ other.0) × IsBefore rest others)

-- the least of the shortest walks
pub record IsBestWalk (peers : Peers) (start : ℕ) (ports : List PortNo) (end : ℕ) : Type 0 where
  pub walk : IsWalk peers start ports end
  pub shortest : (others : List PortNo) → IsWalk peers start others end → length ports ≤ length others
  pub least : (others : List PortNo) → IsWalk peers start others end → length others ≡ length ports → (ports ≡ others) ⊎ IsBefore ports others

-- no walk leads from the start to the device
abbrev pub IsApart : Peers → ℕ → ℕ → Type 0
IsApart peers start end = (ports : List PortNo) → IsWalk peers start ports end → ⊥

-- the device at the other end of a port of a device, which is the device itself where the port has no link
abbrev pub far_of : DevId → Option (DevId × PortNo) → DevId
far_of at None = at
far_of at (Some far) = far.0

-- what a search for the best walk finds
abbrev pub IsFoundWalk : Peers → ℕ → ℕ → Option (List PortNo) → Type 0
IsFoundWalk peers start end None = IsApart peers start end
IsFoundWalk peers start end (Some ports) = IsBestWalk peers start ports end

-- the first step of each best walk that has one, and the device where the rest of it is best
abbrev pub IsFirstStep : Peers → ℕ → ℕ → PortNo × DevId → Type 0
IsFirstStep peers start end step =
    (ports : List PortNo) → IsBestWalk peers start ports end → 0 < length ports
    → (rest : List PortNo) × (ports ≡ step.0 ∷ rest) × IsBestWalk peers step.1.0 rest end

-- a best walk of so many links
pub record HasHops (peers : Peers) (start end hops : ℕ) : Type 0 where
  pub ports : List PortNo
  pub best : IsBestWalk peers start ports end
  pub long : length ports ≡ hops
