-- The links of a plant, as rows by device and port.
use Rattle.std.specs.Prelude.{◌≡◌, ℕ, ◌<◌, ◌≤◌, ◌*◌, List, [], length, Option, Some, None, option_map, slice_index_or}
use Rattle.std.specs.Option.{ForSome}
use Rattle.irt_base.specs.Wiring.{far_end, hop_over, link_number, peer_of, hop_of}
use Rattle.irt_base.specs.declared.limits.TheConstants.{MAX_DELAY, MAX_PORTS}
use Rattle.irt_base.specs.declared.numbers.DevId.{DevId}
use Rattle.irt_base.specs.declared.numbers.PortNo.{PortNo}
use Rattle.irt_base.specs.declared.plants.Link.{Link}
use Rattle.irt_base.specs.declared.plants.Plant.{Plant}
use Rattle.link_index.specs.declared.index.Wire.{Wire}

-- the wire of a port, none past the rows and the ports
abbrev pub wire_in : List (List (Option Wire)) → ℕ → ℕ → Option Wire
wire_in rows device port = slice_index_or (slice_index_or rows device []) port None

-- the device and port at the other end of a port's wire
abbrev pub peer_in : List (List (Option Wire)) → ℕ → ℕ → Option (DevId × PortNo)
peer_in rows device port = option_map (λ (w : Wire). (w.device, w.port)) (wire_in rows device port)

-- how long a frame takes there
abbrev pub hop_in : List (List (Option Wire)) → ℕ → ℕ → Option ℕ
hop_in rows device port = option_map (λ (w : Wire). w.hop) (wire_in rows device port)

-- which of the plant's links it is
abbrev pub number_in : List (List (Option Wire)) → ℕ → ℕ → Option ℕ
number_in rows device port = option_map (λ (w : Wire). w.number) (wire_in rows device port)

-- the rows give the other end, the hop and the link's number of each port of the plant, and of no other; links are
-- between the plant's devices
pub record IsIndexOf (plant : Plant) (rows : List (List (Option Wire))) : Type 0 where
  pub peers : (device port : ℕ) → peer_in rows device port ≡ peer_of plant device port
  pub hops : (device port : ℕ) → hop_in rows device port ≡ hop_of plant device port
  pub numbers : (device port : ℕ) → number_in rows device port ≡ link_number plant device port
  pub within : (device port : ℕ) (far : DevId × PortNo) → peer_of plant device port ≡ Some far
      → (device < length plant.devices) × (port ≤ MAX_PORTS) × (far.0.0 < length plant.devices)

-- a port's end of a link of this number
abbrev pub wire_over : Plant → ℕ → ℕ → ℕ → Link → Wire
wire_over plant device port number link =
    record {
      device = (far_end device port link).0;
      port = (far_end device port link).1;
      hop = hop_over plant device port link;
      number = number;
    }

-- each hop is at most three delays: a Tx delay, a link's and an Rx delay
abbrev pub HasSmallHop : Option Wire → Type 0
HasSmallHop wire = ForSome wire (λ (w : Wire). w.hop ≤ 3 * MAX_DELAY)

abbrev pub AreSmallRows : List (List (Option Wire)) → Type 0
AreSmallRows rows = (device port : ℕ) → HasSmallHop (wire_in rows device port)
