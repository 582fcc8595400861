-- What is asked of the ways of a plan, by device and frame.
use Rattle.std.specs.Prelude.{◌≡◌, ℕ, Option, Some, None, pos}
use Rattle.irt_base.specs.declared.blocks.Entry.{Entry}
use Rattle.irt_base.specs.declared.numbers.DevId.{DevId}
use Rattle.irt_base.specs.declared.numbers.PortNo.{PortNo}
use Rattle.plan_rules.specs.Way.{Setup, entry_at, Leaves, IsParent}
use Rattle.plan_rules.specs.SendWindow.{SendWindow, HasWindow}
use Rattle.plan_rules.specs.Ways.{IsWay}
use Rattle.plan_rules.specs.declared.way.Way.{Way}
use Rattle.irt_window.specs.declared.windows.Window.{Window}

-- the entry of a frame at a device, and its way
pub record IsEntryWay (setup : Setup) (device frame : ℕ) (e : Entry) (way : Way) : Type 0 where
  pub stands : entry_at setup device frame ≡ Some e
  pub named : e.frame.0 ≡ frame
  pub is_way : IsWay setup device e way

abbrev pub IsEntryFound : Setup → ℕ → ℕ → Option (Entry × Way) → Type 0
IsEntryFound setup device frame None = entry_at setup device frame ≡ None
IsEntryFound setup device frame (Some found) = IsEntryWay setup device frame found.0 found.1

-- the window of an entry that leaves by a port
pub record IsWindow (setup : Setup) (device frame : ℕ) (w : Window) : Type 0 where
  pub e : Entry
  pub port : ℕ
  pub window : SendWindow
  pub stands : entry_at setup device frame ≡ Some e
  pub leaves : Leaves e port
  pub sends : HasWindow setup frame device window
  pub lo : w.lo ≡ pos window.lo
  pub hi : w.hi ≡ pos window.hi
  pub anchor : w.anchor.0 ≡ window.anchor

-- A device's window of a frame, or none where it has no entry of the frame that leaves by a port.
abbrev pub IsWindowAnswer : Setup → ℕ → ℕ → Option Window → Type 0
IsWindowAnswer setup device frame None = (e : Entry) (port : ℕ) → entry_at setup device frame ≡ Some e → ¬ Leaves e port
IsWindowAnswer setup device frame (Some w) = IsWindow setup device frame w

-- the parent of an entry
pub record IsSource (setup : Setup) (device frame : ℕ) (parent : DevId × PortNo) : Type 0 where
  pub e : Entry
  pub stands : entry_at setup device frame ≡ Some e
  pub comes : IsParent setup frame device e parent.0.0 parent.1.0

-- From where a frame comes to a device, or none at the provider and where it has no entry of the frame.
abbrev pub IsSourceAnswer : Setup → ℕ → ℕ → Option (DevId × PortNo) → Type 0
IsSourceAnswer setup device frame None = (e : Entry) → entry_at setup device frame ≡ Some e → e.rx_port ≡ 0
IsSourceAnswer setup device frame (Some parent) = IsSource setup device frame parent
