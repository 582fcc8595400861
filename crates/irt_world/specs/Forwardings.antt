-- The entries whose frames a row delays: those by which a relative device sends on what it receives. They count
-- from 0, by device, then FrameID.
use Rattle.std.specs.Prelude.{ℕ, suc, ◌+◌, ◌*◌, ◌<◌, ◌≤◌, ◌==◌, nat_le, Bool, true, false, ◌&&◌, List, [], ◌++◌, ◌∷◌, map, filter, All, Option, position}
use Rattle.std.specs.List.Sorted.{IsNonDecreasingBy}
use Rattle.irt_base.specs.declared.blocks.Bundle.{Bundle}
use Rattle.irt_base.specs.declared.blocks.Entry.{Entry}
use Rattle.irt_base.specs.declared.plants.Device.{Device}
use Rattle.irt_base.specs.declared.plants.Mode.{Mode}
use Rattle.irt_base.specs.declared.plants.Mode.TheVariants.{Absolute, Relative}
use Rattle.irt_base.specs.declared.plants.Plant.{Plant}
use Rattle.irt_world.specs.declared.forwardings.Forwarding.{Forwarding}
use Rattle.irt_world.specs.declared.forwardings.TheConstants.{FRAMES}

abbrev pub is_relative : Mode → Bool
is_relative Absolute = false
is_relative Relative = true

-- a relative device sends the frame on: it comes by a port and leaves by one. Bit 0 of `tx` is the device itself, and
-- each port has a higher one.
abbrev pub is_delayed : Device → Entry → Bool
is_delayed d e = is_relative d.mode && nat_le 1 e.rx_port && nat_le 2 e.tx

abbrev pub forwarding_of : ℕ → Device → Entry → Forwarding
forwarding_of device d e = record { device = record { 0 = device }; frame = e.frame; bmin = d.bmin; bmax = d.bmax }

-- those of one device
abbrev pub forwardings_at : ℕ → Device → Bundle → List Forwarding
forwardings_at device d b = map (forwarding_of device d) (filter (is_delayed d) b.frames.entries)

-- those of the devices from one on
abbrev pub forwardings_from : ℕ → List Device → List Bundle → List Forwarding
forwardings_from device (d ∷ ds) (b ∷ bs) = forwardings_at device d b ++ forwardings_from (suc device) ds bs
forwardings_from device (d ∷ ds) [] = []
forwardings_from device [] bs = []

-- those of a plant
abbrev pub forwardings : Plant → List Bundle → List Forwarding
forwardings plant bundles = forwardings_from 0 plant.devices bundles

abbrev pub is_at : ℕ → ℕ → Forwarding → Bool
is_at device frame f = (f.device.0 == device) && (f.frame.0 == frame)

-- the number of the first one at a device and a frame
abbrev pub number_in : List Forwarding → ℕ → ℕ → Option ℕ
number_in fs device frame = position (is_at device frame) fs

-- the place of a device's frame among all
abbrev pub place_of : ℕ → ℕ → ℕ
place_of device frame = device * FRAMES + frame

-- the least bridge delay is at most the greatest
abbrev pub HasRange : Forwarding → Type 0
HasRange f = f.bmin ≤ f.bmax

-- They stand in the order of their devices, then of their FrameIDs, and have ranges.
pub record AreInOrder (fs : List Forwarding) : Type 0 where
  pub places : IsNonDecreasingBy (λ f. place_of f.device.0 f.frame.0) fs
  pub frames : All (λ f. f.frame.0 < FRAMES) fs
  pub ranges : All HasRange fs
