-- In which time of a cycle a device sends a frame, by the blocks alone.
use Rattle.std.specs.Prelude.{◌≡◌, ℕ, ◌+◌, ◌==◌, if◌then◌else◌, Some, slice_get}
use Rattle.irt_base.specs.Cycle.{guard_time}
use Rattle.irt_base.specs.Wiring.{hop_of}
use Rattle.irt_base.specs.declared.blocks.Entry.{Entry}
use Rattle.irt_base.specs.declared.plants.Device.{Device}
use Rattle.plan_rules.specs.Way.{Setup, entry_at, IsAnchor, IsParent}

-- The least and the greatest start, in ns of the local time of the anchor: the nearest device on the way that
-- starts the frame by a FrameSendOffset.
pub record SendWindow : Type 0 where
  pub lo : ℕ
  pub hi : ℕ
  pub anchor : ℕ

-- The window of a frame at a device: the anchor's offset, and from there on each hop and the least and the
-- greatest bridge delay. Behind an offset of 0, a hop of 800 and a bridge of 1000 to 3000 it is 1800 to 3800.
pub data HasWindow (setup : Setup) (frame : ℕ) : ℕ → SendWindow → Type 0 where
  at_anchor : (device : ℕ) (e : Entry) → entry_at setup device frame ≡ Some e → IsAnchor setup device e →
      HasWindow setup frame device (record { lo = e.send_offset; hi = e.send_offset; anchor = device })
  behind : (device : ℕ) (e : Entry) (parent port hop : ℕ) (w : SendWindow) (d : Device) → entry_at setup device frame ≡ Some e →
      ¬ IsAnchor setup device e → IsParent setup frame device e parent port → HasWindow setup frame parent w →
      hop_of setup.plant parent port ≡ Some hop → slice_get setup.plant.devices device ≡ Some d →
      HasWindow setup frame device (record { lo = w.lo + (hop + d.bmin); hi = w.hi + (hop + d.bmax); anchor = w.anchor })

-- What has to lie between times of two clocks: nothing where they are one, else the guard.
abbrev pub slack_time : ℕ → ℕ → ℕ → ℕ
slack_time window first second = if first == second then 0 else guard_time window
