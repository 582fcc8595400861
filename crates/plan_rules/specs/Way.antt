-- The way of a frame through the entries of the devices, and when it starts at each.
use Rattle.std.specs.Prelude.{◌≡◌, ℕ, ◌+◌, ◌*◌, ◌≤◌, ◌==◌, ◌⊎◌, List, Option, Some, option_map, option_and_then, find, slice_get, ℤ, pos, ◌+ℤ◌, IsBitSet}
use Rattle.irt_base.specs.Cycle.{cycle_time}
use Rattle.irt_base.specs.Valid.{IsWithin}
use Rattle.irt_base.specs.Wiring.{peer_of, hop_of}
use Rattle.irt_base.specs.declared.blocks.Entry.{Entry}
use Rattle.irt_base.specs.declared.blocks.FrameBlock.{FrameBlock}
use Rattle.irt_base.specs.declared.plants.Device.{Device}
use Rattle.irt_base.specs.declared.plants.Mode.TheVariants.{Absolute}
use Rattle.irt_base.specs.declared.plants.Plant.{Plant}
use Rattle.plan_rules.specs.World.{WorldRow, IsInStep, IsUncut}

-- a plant and the frame blocks of its devices, by device number
pub record Setup : Type 0 where
  pub plant : Plant
  pub blocks : List FrameBlock

-- the entry of a frame at a device
abbrev pub entry_at : Setup → ℕ → ℕ → Option Entry
entry_at setup device frame =
    option_and_then (λ (block : FrameBlock). find (λ (e : Entry). e.frame.0 == frame) block.entries) (slice_get setup.blocks device)

-- the frame leaves by this port, from 1
pub record Leaves (e : Entry) (port : ℕ) : Type 0 where
  pub from_one : 1 ≤ port
  pub bit : IsBitSet e.tx port

abbrev pub IsAbsolute : Plant → ℕ → Type 0
IsAbsolute plant device = option_map (λ (d : Device). d.mode) (slice_get plant.devices device) ≡ Some Absolute

-- The device starts the frame by a FrameSendOffset: it provides the frame, or forwards it in absolute time.
abbrev pub IsAnchor : Setup → ℕ → Entry → Type 0
IsAnchor setup device e = (e.rx_port ≡ 0) ⊎ (IsAbsolute setup.plant device × ((port : ℕ) × Leaves e port))

-- The frame comes to a device from this port of this parent.
pub record IsParent (setup : Setup) (frame device : ℕ) (e : Entry) (parent port : ℕ) : Type 0 where
  pub received : 1 ≤ e.rx_port
  pub sent : (from : Entry) × (entry_at setup parent frame ≡ Some from) × Leaves from port
  pub leads : peer_of setup.plant parent port ≡ Some (record { 0 = device }, record { 0 = e.rx_port })

-- The frame's route to a device is live: every device on its way is in step, and no link of it is cut.
pub data IsLive (setup : Setup) (row : WorldRow) (frame : ℕ) : ℕ → Type 0 where
  provided : (device : ℕ) (e : Entry) → entry_at setup device frame ≡ Some e → e.rx_port ≡ 0 →
      IsInStep setup.plant row device → IsLive setup row frame device
  forwarded : (device : ℕ) (e : Entry) (parent port : ℕ) → entry_at setup device frame ≡ Some e →
      IsParent setup frame device e parent port → IsLive setup row frame parent →
      IsUncut setup.plant row parent port → IsInStep setup.plant row device → IsLive setup row frame device

-- When a frame starts at a device in cycle k, in true ns. An anchor starts it at its own FrameSendOffset. Any
-- other device does so a hop and its bridge delay after the parent.
pub data IsStart (setup : Setup) (row : WorldRow) (k frame : ℕ) : ℕ → ℤ → Type 0 where
  by_offset : (device : ℕ) (e : Entry) → entry_at setup device frame ≡ Some e → IsAnchor setup device e →
      IsStart setup row k frame device (pos (k * cycle_time setup.plant.factor + e.send_offset) +ℤ row.error device)
  by_arrival : (device : ℕ) (e : Entry) (parent port hop : ℕ) (start : ℤ) → entry_at setup device frame ≡ Some e →
      ¬ IsAnchor setup device e → IsParent setup frame device e parent port → IsStart setup row k frame parent start →
      hop_of setup.plant parent port ≡ Some hop →
      IsStart setup row k frame device (start +ℤ pos (hop + row.bridge device frame))

-- A relative forwarder sends on what it receives, after its bridge delay.
abbrev pub IsRelay : Setup → ℕ → Entry → Type 0
IsRelay setup device e = (¬ IsAnchor setup device e) × ((port : ℕ) × Leaves e port)

-- The bridge delays of a row are in their devices' ranges. Clock errors may be any.
abbrev pub IsInRange : Setup → WorldRow → Type 0
IsInRange setup row = (device frame : ℕ) (e : Entry) (d : Device) → entry_at setup device frame ≡ Some e →
    slice_get setup.plant.devices device ≡ Some d → IsRelay setup device e → IsWithin d.bmin d.bmax (row.bridge device frame)
