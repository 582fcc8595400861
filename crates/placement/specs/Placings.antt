-- The offsets of a frame beside the slots of those that are placed. Times are ns.
use Rattle.std.specs.Prelude.{◌≡◌, ℕ, ◌<◌, ◌≤◌, List, length, All, Contains, Option, Some, None, slice_get, nat_lt, if◌then◌else◌}
use Rattle.irt_base.specs.Cycle.{IsDue}
use Rattle.irt_base.specs.declared.limits.TheConstants.{PHASES}
use Rattle.fit_rules.specs.Fit.{IsLeastFrom, IsNotWorse}
use Rattle.gap_table.specs.Slots.{IsClear}
use Rattle.gap_table.specs.declared.slot.Slot.{Slot}
use Rattle.placement.specs.declared.layout.Anchor.{Anchor}
use Rattle.placement.specs.declared.layout.Layout.{Layout}
use Rattle.placement.specs.declared.layout.Limits.{Limits}
use Rattle.placement.specs.declared.layout.Rate.{Rate}
use Rattle.placement.specs.declared.layout.Sending.{Sending}
use Rattle.placement.specs.declared.phases.Placing.{Placing}
use Rattle.placement.specs.Layouts.{AreSmall, offset_at, ready_after, slot_of, end_of}
use Rattle.placement.specs.Tables.{table_at}

-- nothing in the way in any phase in which the frame is due
abbrev pub IsFree : Limits → Rate → ℕ → List (List Slot) → Sending → ℕ → Type 0
IsFree limits rate wire tables s offset = (k : ℕ) → k < PHASES → IsDue k rate.ratio rate.phase →
    All (IsClear limits.guard (slot_of wire s offset)) (table_at tables s.device.0 s.port.0 k)

-- a sending at this offset of its anchor ends by the red limit, and meets no slot
pub record IsFitting (limits : Limits) (rate : Rate) (wire : ℕ) (tables : List (List Slot)) (s : Sending) (offset : ℕ) : Type 0 where
  pub red : end_of limits wire s offset ≤ limits.red_max
  pub free : IsFree limits rate wire tables s offset

-- all sendings fit that hang on the anchor
abbrev pub IsOpen : Limits → Rate → Layout → List (List Slot) → ℕ → ℕ → Type 0
IsOpen limits rate layout tables anchor offset = (s : Sending) → Contains layout.sendings s → s.anchor.0 ≡ anchor →
    IsFitting limits rate layout.wire tables s offset

-- The anchors before a place have each the least offset, from its ready time on, at which all fit that hang on it.
abbrev pub ArePlacedBelow : Limits → Rate → Layout → List (List Slot) → ℕ → List ℕ → Type 0
ArePlacedBelow limits rate layout tables below offsets = (n : ℕ) (a : Anchor) → n < below → slice_get layout.anchors n ≡ Some a →
    IsLeastFrom (IsOpen limits rate layout tables a.device.0) (ready_after offsets a.after) (offset_at offsets a.device.0)

-- all anchors
abbrev pub ArePlaced : Limits → Rate → Layout → List (List Slot) → List ℕ → Type 0
ArePlaced limits rate layout tables offsets = ArePlacedBelow limits rate layout tables (length layout.anchors) offsets

-- the greatest end of a sending
pub record IsEnd (limits : Limits) (layout : Layout) (offsets : List ℕ) (end : ℕ) : Type 0 where
  pub bound : (s : Sending) → Contains layout.sendings s → end_of limits layout.wire s (offset_at offsets s.anchor.0) ≤ end
  pub some : (s : Sending) × Contains layout.sendings s × (end ≡ end_of limits layout.wire s (offset_at offsets s.anchor.0))

abbrev pub rate_of : ℕ → ℕ → Rate
rate_of ratio phase = record { ratio = ratio; phase = phase }

-- Of the phases before one the frame is placed in the one with the least end, and of equal ones in the least.
pub record IsBestBelow (limits : Limits) (ratio : ℕ) (layout : Layout) (tables : List (List Slot)) (below : ℕ) (p : Placing) : Type 0 where
  pub from_one : 1 ≤ p.phase
  pub before : p.phase < below
  pub small : AreSmall p.offsets
  pub placed : ArePlaced limits (rate_of ratio p.phase) layout tables p.offsets
  pub ends : IsEnd limits layout p.offsets p.end
  pub best : (phase : ℕ) (offsets : List ℕ) (end : ℕ) → 1 ≤ phase → phase < below →
      ArePlaced limits (rate_of ratio phase) layout tables offsets → IsEnd limits layout offsets end → IsNotWorse p.end p.phase end phase

-- No phase before one has offsets.
abbrev pub HasNoneBelow : Limits → ℕ → Layout → List (List Slot) → ℕ → Type 0
HasNoneBelow limits ratio layout tables below = (phase : ℕ) (offsets : List ℕ) → 1 ≤ phase → phase < below →
    ¬ ArePlaced limits (rate_of ratio phase) layout tables offsets

abbrev pub IsAnswerBelow : Limits → ℕ → Layout → List (List Slot) → ℕ → Option Placing → Type 0
IsAnswerBelow limits ratio layout tables below None = HasNoneBelow limits ratio layout tables below
IsAnswerBelow limits ratio layout tables below (Some p) = IsBestBelow limits ratio layout tables below p

-- what one phase gives
pub record IsPlacingIn (limits : Limits) (rate : Rate) (layout : Layout) (tables : List (List Slot)) (p : Placing) : Type 0 where
  pub phase_is : p.phase ≡ rate.phase
  pub small : AreSmall p.offsets
  pub placed : ArePlaced limits rate layout tables p.offsets
  pub ends : IsEnd limits layout p.offsets p.end

abbrev pub IsPhaseAnswer : Limits → Rate → Layout → List (List Slot) → Option Placing → Type 0
IsPhaseAnswer limits rate layout tables None = (offsets : List ℕ) → ¬ ArePlaced limits rate layout tables offsets
IsPhaseAnswer limits rate layout tables (Some p) = IsPlacingIn limits rate layout tables p

-- the first one, unless the second one ends before it
abbrev pub earlier : Option Placing → Option Placing → Option Placing
earlier None second = second
earlier (Some first) None = Some first
earlier (Some first) (Some second) = Some (if nat_lt second.end first.end then second else first)
