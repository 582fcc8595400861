-- The slots that a placed frame adds to the tables.
use Rattle.std.specs.Prelude.{◌≡◌, ℕ, ◌<◌, List, All, Contains}
use Rattle.irt_base.specs.Cycle.{IsDue}
use Rattle.irt_base.specs.declared.limits.TheConstants.{PHASES}
use Rattle.gap_table.specs.Slots.{IsClear}
use Rattle.gap_table.specs.declared.slot.Slot.{Slot}
use Rattle.placement.specs.declared.layout.Layout.{Layout}
use Rattle.placement.specs.declared.layout.Rate.{Rate}
use Rattle.placement.specs.declared.layout.Sending.{Sending}
use Rattle.placement.specs.Layouts.{offset_at, slot_of}
use Rattle.placement.specs.Tables.{table_at}

-- the slot of a sending in the phases before one in which it is due
pub record IsDueSlot (rate : Rate) (sending : Sending) (slot : Slot) (below device port k : ℕ) (s : Slot) : Type 0 where
  pub device_is : device ≡ sending.device.0
  pub port_is : port ≡ sending.port.0
  pub before : k < below
  pub due : IsDue k rate.ratio rate.phase
  pub slot_is : s ≡ slot

-- the slot of one of the frame's sendings
pub record IsFrameSlot (rate : Rate) (layout : Layout) (offsets : List ℕ) (device port k : ℕ) (s : Slot) : Type 0 where
  pub sending : Sending
  pub has : Contains layout.sendings sending
  pub is : IsDueSlot rate sending (slot_of layout.wire sending (offset_at offsets sending.anchor.0)) PHASES device port k s

-- No slot of the tables overlaps one of the frame's.
abbrev pub AreClearSlots : Rate → Layout → List ℕ → List (List Slot) → Type 0
AreClearSlots rate layout offsets tables = (s : Sending) → Contains layout.sendings s → (k : ℕ) → k < PHASES → IsDue k rate.ratio rate.phase →
    All (IsClear 0 (slot_of layout.wire s (offset_at offsets s.anchor.0))) (table_at tables s.device.0 s.port.0 k)
