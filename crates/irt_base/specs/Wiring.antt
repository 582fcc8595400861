-- Link directions: a device and one of its ports, seen from the sender's side, and how long a hop takes.
use Rattle.std.specs.Prelude.{ℕ, ◌+◌, ◌-◌, ◌==◌, Bool, ◌&&◌, ◌||◌, if◌then◌else◌, Option, option_map, option_and_then, find, position, slice_get, unwrap_or}
use Rattle.irt_base.specs.declared.numbers.DevId.{DevId}
use Rattle.irt_base.specs.declared.numbers.PortNo.{PortNo}
use Rattle.irt_base.specs.declared.blocks.PortDelay.{PortDelay}
use Rattle.irt_base.specs.declared.plants.Device.{Device}
use Rattle.irt_base.specs.declared.plants.Link.{Link}
use Rattle.irt_base.specs.declared.plants.Plant.{Plant}

-- the link's first end is this device's port; its second end is
abbrev pub begins_at : ℕ → ℕ → Link → Bool
begins_at device port link = (link.a.0 == device) && (link.a_port.0 == port)

abbrev pub ends_at : ℕ → ℕ → Link → Bool
ends_at device port link = (link.b.0 == device) && (link.b_port.0 == port)

abbrev pub touches : ℕ → ℕ → Link → Bool
touches device port link = begins_at device port link || ends_at device port link

-- the link of a port, and its number
abbrev pub link_at : Plant → ℕ → ℕ → Option Link
link_at plant device port = find (touches device port) plant.links

abbrev pub link_number : Plant → ℕ → ℕ → Option ℕ
link_number plant device port = position (touches device port) plant.links

-- the end of a link other than this one
abbrev pub far_end : ℕ → ℕ → Link → DevId × PortNo
far_end device port link =
    if begins_at device port link then (link.b, link.b_port) else (link.a, link.a_port)

-- the device and port at the other end of a port's link
abbrev pub peer_of : Plant → ℕ → ℕ → Option (DevId × PortNo)
peer_of plant device port = option_map (far_end device port) (link_at plant device port)

-- the delays of a device's port, from 1
abbrev pub port_delays : Plant → ℕ → ℕ → Option PortDelay
port_delays plant device port =
    option_and_then (λ (d : Device). slice_get d.ports (port - 1)) (slice_get plant.devices device)

abbrev pub tx_delay : Plant → ℕ → ℕ → ℕ
tx_delay plant device port = unwrap_or (option_map (λ (p : PortDelay). p.tx) (port_delays plant device port)) 0

abbrev pub rx_delay : Plant → ℕ → ℕ → ℕ
rx_delay plant device port = unwrap_or (option_map (λ (p : PortDelay). p.rx) (port_delays plant device port)) 0

-- How long a frame takes over a port's link, in ns: the port's Tx delay, the link's, and the peer's Rx
-- delay. With 100, 500 and 200 it is 800. A port without a link has none.
abbrev pub hop_over : Plant → ℕ → ℕ → Link → ℕ
hop_over plant device port link =
    tx_delay plant device port + link.delay
    + rx_delay plant (far_end device port link).0.0 (far_end device port link).1.0

abbrev pub hop_of : Plant → ℕ → ℕ → Option ℕ
hop_of plant device port = option_map (hop_over plant device port) (link_at plant device port)
