-- A frame's way in plain numbers. Times are ns.
use Rattle.std.specs.Prelude.{◌≡◌, ◌≢◌, ℕ, ◌+◌, ◌<◌, ◌≤◌, ◌==◌, ◌⊎◌, if◌then◌else◌, List, length, All, AllPairs, Contains, Option, Some, None, slice_get, slice_index_or}
use Rattle.irt_base.specs.Valid.{IsWithin}
use Rattle.irt_base.specs.declared.limits.TheConstants.{MAX_DEVICES, MAX_PORTS}
use Rattle.gap_table.specs.declared.slot.Slot.{Slot}
use Rattle.placement.specs.declared.layout.TheConstants.{MAX_TIME}
use Rattle.placement.specs.declared.layout.After.{After}
use Rattle.placement.specs.declared.layout.Anchor.{Anchor}
use Rattle.placement.specs.declared.layout.Layout.{Layout}
use Rattle.placement.specs.declared.layout.Limits.{Limits}
use Rattle.placement.specs.declared.layout.Sending.{Sending}

pub record AreLimits (limits : Limits) : Type 0 where
  pub guard : limits.guard ≤ MAX_TIME
  pub red : limits.red_max ≤ MAX_TIME

pub record IsValidSending (s : Sending) : Type 0 where
  pub anchor : s.anchor.0 < MAX_DEVICES
  pub device : s.device.0 < MAX_DEVICES
  pub port : s.port.0 ≤ MAX_PORTS
  pub ordered : s.least ≤ s.greatest
  pub small : s.greatest ≤ MAX_TIME

-- some sending hangs on the anchor
abbrev pub IsUsed : Layout → ℕ → Type 0
IsUsed layout anchor = (s : Sending) × Contains layout.sendings s × (s.anchor.0 ≡ anchor)

-- the anchor stands before this place
abbrev pub StandsBefore : List Anchor → ℕ → ℕ → Type 0
StandsBefore anchors n device = (m : ℕ) × (a : Anchor) × (m < n) × (slice_get anchors m ≡ Some a) × (a.device.0 ≡ device)

pub record IsAfter (f : After) : Type 0 where
  pub anchor : f.anchor.0 < MAX_DEVICES
  pub gap : f.gap ≤ MAX_TIME

-- an anchor of the layout, at this place
pub record IsAnchorAt (layout : Layout) (n : ℕ) (a : Anchor) : Type 0 where
  pub device : a.device.0 < MAX_DEVICES
  pub used : IsUsed layout a.device.0
  pub after : (f : After) → a.after ≡ Some f → StandsBefore layout.anchors n f.anchor.0 × IsAfter f

pub record IsLayout (layout : Layout) : Type 0 where
  pub wire : IsWithin 1 MAX_TIME layout.wire
  pub sendings : All IsValidSending layout.sendings
  pub directions : AllPairs (λ (s t : Sending). (s.device.0 ≢ t.device.0) ⊎ (s.port.0 ≢ t.port.0)) layout.sendings
  pub anchors : (n : ℕ) (a : Anchor) → slice_get layout.anchors n ≡ Some a → IsAnchorAt layout n a
  pub hangs : (s : Sending) → Contains layout.sendings s → StandsBefore layout.anchors (length layout.anchors) s.anchor.0
  pub once : AllPairs (λ (a b : Anchor). a.device.0 ≢ b.device.0) layout.anchors

-- offsets of sendings that end by a red limit
abbrev pub AreSmall : List ℕ → Type 0
AreSmall offsets = All (λ offset. offset ≤ MAX_TIME) offsets

abbrev pub offset_at : List ℕ → ℕ → ℕ
offset_at offsets device = slice_index_or offsets device 0

-- When an anchor may start. Behind an offset of 0, by a gap of 5800, it is 5800.
abbrev pub ready_after : List ℕ → Option After → ℕ
ready_after offsets None = 0
ready_after offsets (Some f) = offset_at offsets f.anchor.0 + f.gap

-- when the frame may be on the link
abbrev pub slot_of : ℕ → Sending → ℕ → Slot
slot_of wire s offset = record { lo = offset + s.least; end = offset + s.greatest + wire; anchor = s.anchor }

-- when a sending surely is over in its device's own cycle
abbrev pub end_of : Limits → ℕ → Sending → ℕ → ℕ
end_of limits wire s offset = offset + s.greatest + wire + (if s.device.0 == s.anchor.0 then 0 else limits.guard)
