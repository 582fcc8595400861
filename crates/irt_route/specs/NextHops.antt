-- Tables of the first ports of best walks to one device.
use Rattle.std.specs.Prelude.{◌≡◌, ℕ, ◌+◌, ◌<◌, ◌≤◌, Bool, true, false, List, [], ◌∷◌, length, Option, Some, None, is_some, is_none, slice_index_or, slice_set, count_by, replicate}
use Rattle.std.specs.Option.{option_map_or}
use Rattle.irt_base.specs.declared.limits.TheConstants.{MAX_DEVICES}
use Rattle.irt_base.specs.declared.numbers.DevId.{DevId}
use Rattle.irt_base.specs.declared.numbers.PortNo.{PortNo}
use Rattle.link_index.specs.declared.index.TheConstants.{ROW}
use Rattle.irt_route.specs.declared.next_hops.NextHop.{NextHop}
use Rattle.irt_route.specs.declared.next_hops.NextHops.{NextHops}
use Rattle.irt_route.specs.Walks.{Peers, IsWalk, IsBestWalk, IsApart}

-- only devices and ports of a plant are linked
pub record IsWired (peers : Peers) : Type 0 where
  pub ends : (device port : ℕ) (far : DevId × PortNo) → peers device port ≡ Some far
      → (device < MAX_DEVICES) × (port < ROW) × (far.0.0 < MAX_DEVICES)

-- the links of a walk, and its first port
abbrev pub IsNextHopOf : List PortNo → NextHop → Type 0
IsNextHopOf [] way = way.hops ≡ 0
IsNextHopOf (port ∷ rest) way = (way.hops ≡ length (port ∷ rest)) × (way.port ≡ port)

-- the way of a device to the target, which it has exactly where there is a walk
abbrev pub IsNextHop : Peers → ℕ → ℕ → Option NextHop → Type 0
IsNextHop peers target device None = IsApart peers device target
IsNextHop peers target device (Some way) = (ports : List PortNo) × IsBestWalk peers device ports target × IsNextHopOf ports way

abbrev pub AreNextHops : Peers → NextHops → Type 0
AreNextHops peers ways = (device : ℕ) → IsNextHop peers ways.target.0 device (slice_index_or ways.table device None)

-- the same over at most so many links
abbrev pub IsNextHopWithin : Peers → ℕ → ℕ → ℕ → Option NextHop → Type 0
IsNextHopWithin peers target rounds device None = (ports : List PortNo) → IsWalk peers device ports target → rounds < length ports
IsNextHopWithin peers target rounds device (Some way) =
    (ports : List PortNo) × IsBestWalk peers device ports target × (length ports ≤ rounds) × IsNextHopOf ports way

abbrev pub AreNextHopsWithin : Peers → ℕ → ℕ → List (Option NextHop) → Type 0
AreNextHopsWithin peers target rounds table = (device : ℕ) → IsNextHopWithin peers target rounds device (slice_index_or table device None)

-- the port leads to a device that has a way
abbrev pub leads : Peers → List (Option NextHop) → ℕ → ℕ → Bool
leads peers table device port = option_map_or (λ (far : DevId × PortNo). is_some (slice_index_or table far.0.0 None)) (peers device port) false

-- the first port that does
abbrev pub IsFirstPort : (ℕ → Bool) → Option PortNo → Type 0
IsFirstPort test None = (port : ℕ) → port < ROW → test port ≡ false
IsFirstPort test (Some first) = (test first.0 ≡ true) × ((port : ℕ) → port < first.0 → test port ≡ false)

-- a device's way after one more round
abbrev pub IsNext : Peers → List (Option NextHop) → ℕ → ℕ → Option NextHop → Option NextHop → Type 0
IsNext peers table rounds device (Some way) next = next ≡ Some way
IsNext peers table rounds device None None = IsFirstPort (leads peers table device) None
IsNext peers table rounds device None (Some next) = (next.hops ≡ rounds + 1) × IsFirstPort (leads peers table device) (Some next.port)

abbrev pub AreNext : Peers → ℕ → List (Option NextHop) → List (Option NextHop) → Type 0
AreNext peers rounds table next =
    (device : ℕ) → device < MAX_DEVICES
    → IsNext peers table rounds device (slice_index_or table device None) (slice_index_or next device None)

-- the devices without a way
abbrev pub unreached : List (Option NextHop) → ℕ
unreached table = count_by is_none table

-- no link from the target to itself
abbrev pub no_link : NextHop
no_link = record { hops = 0; port = record { 0 = 0 } }

-- before the first round
abbrev pub first_table : ℕ → List (Option NextHop)
first_table target = slice_set (replicate MAX_DEVICES None) target (Some no_link)

-- the first port of a way
abbrev pub port_of : Option NextHop → PortNo
port_of None = record { 0 = 0 }
port_of (Some way) = way.port
