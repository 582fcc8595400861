-- Tables by device, port and phase.
use Rattle.std.specs.Prelude.{◌≡◌, ℕ, ◌+◌, ◌*◌, ◌<◌, ◌≤◌, ◌⊎◌, List, [], Contains, slice_index_or}
use Rattle.irt_base.specs.declared.limits.TheConstants.{MAX_DEVICES, MAX_PORTS, PHASES}
use Rattle.gap_table.specs.declared.slot.Slot.{Slot}
use Rattle.placement.specs.declared.gaps.TheConstants.{ROW}

pub record IsPlace (device port k : ℕ) : Type 0 where
  pub device_in : device < MAX_DEVICES
  pub port_in : port ≤ MAX_PORTS
  pub phase_in : k < PHASES

abbrev pub place_of : ℕ → ℕ → ℕ → ℕ
place_of device port k = (device * ROW + port) * PHASES + k

abbrev pub table_at : List (List Slot) → ℕ → ℕ → ℕ → List Slot
table_at tables device port k = slice_index_or tables (place_of device port k) []

-- The new tables hold what the old ones do, what is added, and nothing else.
pub record Adds (Added : ℕ → ℕ → ℕ → Slot → Type 0) (old new : List (List Slot)) : Type 0 where
  pub only : (device port k : ℕ) (s : Slot) → IsPlace device port k → Contains (table_at new device port k) s →
      Contains (table_at old device port k) s ⊎ Added device port k s
  pub keeps : (device port k : ℕ) (s : Slot) → IsPlace device port k → Contains (table_at old device port k) s → Contains (table_at new device port k) s
  pub adds : (device port k : ℕ) (s : Slot) → IsPlace device port k → Added device port k s → Contains (table_at new device port k) s

-- this slot at this place
pub record IsHere (device port k : ℕ) (slot : Slot) (d p j : ℕ) (s : Slot) : Type 0 where
  pub device_is : d ≡ device
  pub port_is : p ≡ port
  pub phase_is : j ≡ k
  pub slot_is : s ≡ slot
