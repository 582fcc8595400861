-- Words of the plant rules.
use Rattle.std.specs.Prelude.{ℕ, ◌+◌, ◌/◌, ◌==◌, nat_le, Bool, false, ◌&&◌, ◌||◌, if◌then◌else◌, List, length, slice_get, bytes_eq, sum_by}
use Rattle.std.specs.List.{list_any}
use Rattle.std.specs.Option.{option_map_or}
use Rattle.irt_base.specs.Wiring.{tx_delay, rx_delay}
use Rattle.irt_base.specs.declared.limits.TheConstants.{WORD_BYTES}
use Rattle.irt_base.specs.declared.numbers.DevId.{DevId}
use Rattle.irt_base.specs.declared.numbers.PortNo.{PortNo}
use Rattle.irt_base.specs.declared.plants.Device.{Device}
use Rattle.irt_base.specs.declared.plants.Link.{Link}
use Rattle.irt_base.specs.declared.plants.Demand.{Demand}
use Rattle.irt_base.specs.declared.plants.App.{App}
use Rattle.irt_base.specs.declared.plants.Plant.{Plant}

-- from low to high, both included
abbrev pub is_within : ℕ → ℕ → ℕ → Bool
is_within low high n = nat_le low n && nat_le n high

abbrev pub same_name : Device → Device → Bool
same_name d e = bytes_eq d.name e.name

abbrev pub has_port : Plant → ℕ → ℕ → Bool
has_port p device port = option_map_or (λ (d : Device). is_within 1 (length d.ports) port) (slice_get p.devices device) false

-- one of two ports is the other
abbrev pub same_port : DevId → PortNo → DevId → PortNo → Bool
same_port d p e q = d.0 == e.0 && p.0 == q.0

-- the links have a port in common
abbrev pub share_port : Link → Link → Bool
share_port l m =
    same_port l.a l.a_port m.a m.a_port || same_port l.a l.a_port m.b m.b_port
    || same_port l.b l.b_port m.a m.a_port || same_port l.b l.b_port m.b m.b_port

-- how long a frame takes over a link from its first end to its second, and back
abbrev pub hop_there : Plant → Link → ℕ
hop_there p l = tx_delay p l.a.0 l.a_port.0 + l.delay + rx_delay p l.b.0 l.b_port.0

abbrev pub hop_back : Plant → Link → ℕ
hop_back p l = tx_delay p l.b.0 l.b_port.0 + l.delay + rx_delay p l.a.0 l.a_port.0

abbrev pub same_frame : Demand → Demand → Bool
same_frame d e = d.frame.0 == e.frame.0

abbrev pub same_app_device : App → App → Bool
same_app_device a b = a.device.0 == b.device.0

-- a device consumes a demand, and provides it
abbrev pub consumes : ℕ → Demand → Bool
consumes device d = list_any (λ (c : DevId). c.0 == device) d.consumers

abbrev pub provides : ℕ → Demand → Bool
provides device d = d.provider.0 == device

-- the words of a demand's data: 40 bytes are 5
abbrev pub demand_words : Demand → ℕ
demand_words d = d.length / WORD_BYTES

abbrev pub words_where : (Demand → Bool) → List Demand → ℕ
words_where test demands = sum_by (λ d. if test d then demand_words d else 0) demands
