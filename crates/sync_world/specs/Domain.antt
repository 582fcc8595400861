-- The sync domain of a plant: over which links each device hears the master.
use Rattle.std.specs.Prelude.{ℕ, zero, suc, ◌≤◌, ◌<◌, List, [], ◌∷◌, map, length, All, Option, Some, None, option_map, option_and_then, slice_get, unwrap_or}
use Rattle.std.specs.List.{range_with_len}
use Rattle.irt_base.specs.Wiring.{link_number}
use Rattle.irt_base.specs.declared.limits.TheConstants.{MAX_DELAY, MAX_DEVICES, MAX_DRIFT, MAX_SEND, MAX_STAMP}
use Rattle.irt_base.specs.declared.numbers.DevId.{DevId}
use Rattle.irt_base.specs.declared.numbers.PortNo.{PortNo}
use Rattle.irt_base.specs.declared.plants.Link.{Link}
use Rattle.irt_base.specs.declared.plants.Plant.{Plant}
use Rattle.irt_route.specs.Clocks.{ClockTable, clock_parent, hops_in}
use Rattle.sync_world.specs.declared.domain.ClockLine.{ClockLine}
use Rattle.sync_world.specs.declared.domain.Domain.{Domain}

-- the delay of the link at a port, 0 where there is none
abbrev pub link_delay : Plant → ℕ → ℕ → ℕ
link_delay plant device port =
    unwrap_or
    (option_map (λ (l : Link). l.delay) (option_and_then (slice_get plant.links) (link_number plant device port))) 0

-- the delay of the link from a parent's port, and the parent's device, which is device 0 where there is no parent
abbrev pub delay_from : Plant → Option (DevId × PortNo) → ℕ
delay_from plant None = 0
delay_from plant (Some from) = link_delay plant from.0.0 from.1.0

abbrev pub device_of : Option (DevId × PortNo) → DevId
device_of None = record { 0 = 0 }
device_of (Some from) = from.0

-- a device and those before it, as many as these
abbrev pub walk_up : ClockTable → ℕ → DevId → List DevId
walk_up tree zero device = []
walk_up tree (suc links) device = device ∷ walk_up tree links (device_of (clock_parent tree device.0))

-- How a device hears the master. In a line of the devices 0, 1 and 2, device 2 has the walk 2, 1.
abbrev pub clock_line : Plant → ClockTable → ℕ → ClockLine
clock_line plant tree device = record {
  delay = delay_from plant (clock_parent tree device);
  walk = walk_up tree (hops_in tree device) (record { 0 = device });
}

-- the domain of a plant by a seed, with so many cycles between two sync messages
unfoldable pub domain_of : ℕ → Plant → ClockTable → ℕ → Domain
domain_of seed plant tree send = record {
  seed = seed;
  send = send;
  drift = plant.sync.drift;
  stamp = plant.sync.stamp;
  loss = plant.sync.loss;
  lines = map (clock_line plant tree) (range_with_len 0 (length plant.devices));
}

-- the line of a device, and its link's delay
abbrev pub no_line : ClockLine
no_line = record { delay = 0; walk = [] }

abbrev pub line_of : Domain → ℕ → ClockLine
line_of domain device = unwrap_or (slice_get domain.lines device) no_line

abbrev pub delay_of : Domain → ℕ → ℕ
delay_of domain device = (line_of domain device).delay

abbrev pub walk_of : Domain → ℕ → List DevId
walk_of domain device = (line_of domain device).walk

-- the line is in range, among so many devices
pub record IsLine (devices : ℕ) (line : ClockLine) : Type 0 where
  pub delay : line.delay ≤ MAX_DELAY
  pub long : length line.walk < 256
  pub walk : All (λ v. v.0 < devices) line.walk

-- the numbers of a domain are in range
pub record IsDomain (domain : Domain) : Type 0 where
  pub some_send : 1 ≤ domain.send
  pub send : domain.send ≤ MAX_SEND
  pub drift : domain.drift ≤ MAX_DRIFT
  pub stamp : domain.stamp ≤ MAX_STAMP
  pub count : length domain.lines ≤ MAX_DEVICES
  pub lines : All (IsLine (length domain.lines)) domain.lines
