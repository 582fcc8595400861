-- Where an event belongs: a device's port and a frame, or a device and a frame.
use Rattle.std.specs.Prelude.{ℕ, ◌+◌, ◌==◌, Bool, true, false, ◌&&◌, List, [], ◌∷◌, ◌++◌, map}
use Rattle.std.specs.List.{flat_map}
use Rattle.irt_base.specs.declared.blocks.Entry.{Entry}
use Rattle.irt_base.specs.declared.blocks.FrameBlock.{FrameBlock}
use Rattle.plan_rules.specs.Way.{Setup}
use Rattle.cycle_events.specs.declared.events.Event.{Event}
use Rattle.cycle_events.specs.declared.events.What.{What}
use Rattle.cycle_events.specs.declared.events.What.TheVariants.{Start, Arrive}
use Rattle.cycle_events.specs.Events.{ports_in}

abbrev pub is_start : What → Bool
is_start Start = true
is_start Arrive = false

abbrev pub is_arrival : What → Bool
is_arrival Start = false
is_arrival Arrive = true

-- the event starts this frame at this port
abbrev pub starts_by : ℕ → ℕ → ℕ → Event → Bool
starts_by device port frame e = is_start e.what && ((e.device.0 == device) && ((e.port.0 == port) && (e.frame.0 == frame)))

-- the event brings this frame to this device
abbrev pub comes_to : ℕ → ℕ → Event → Bool
comes_to device frame e = is_arrival e.what && ((e.device.0 == device) && (e.frame.0 == frame))

-- a port by which a device sends a frame, or a device to which a frame comes
pub data EventPlace : Type 0 where
  At_port : (device port frame : ℕ) → EventPlace
  At_device : (device frame : ℕ) → EventPlace

abbrev pub is_at : EventPlace → Event → Bool
is_at (At_port device port frame) e = starts_by device port frame e
is_at (At_device device frame) e = comes_to device frame e

abbrev pub places_of_entry : ℕ → Entry → List EventPlace
places_of_entry device e = At_device device e.frame.0 ∷ map (λ port. At_port device port e.frame.0) (ports_in e.tx)

-- those of the devices from one on
abbrev pub places_from : ℕ → List FrameBlock → List EventPlace
places_from device [] = []
places_from device (b ∷ blocks) = flat_map (places_of_entry device) b.entries ++ places_from (device + 1) blocks

-- for each entry one place, and one for each of its ports
abbrev pub places : Setup → List EventPlace
places setup = places_from 0 setup.blocks
