-- Steps of the search for an offset. Times are ns.
use Rattle.std.specs.Prelude.{◌≡◌, ℕ, ◌<◌, ◌≤◌, List, All, Contains}
use Rattle.gap_table.specs.Slots.{IsClear}
use Rattle.gap_table.specs.declared.slot.Slot.{Slot}
use Rattle.placement.specs.declared.layout.Layout.{Layout}
use Rattle.placement.specs.declared.layout.Limits.{Limits}
use Rattle.placement.specs.declared.layout.Rate.{Rate}
use Rattle.placement.specs.declared.layout.Sending.{Sending}
use Rattle.placement.specs.declared.search.TheConstants.{MAX_OFFSET}
use Rattle.placement.specs.Layouts.{slot_of, end_of}
use Rattle.placement.specs.Placings.{IsFree, IsOpen}

abbrev pub EndInRed : Limits → Layout → ℕ → ℕ → Type 0
EndInRed limits layout anchor offset = (s : Sending) → Contains layout.sendings s → s.anchor.0 ≡ anchor →
    end_of limits layout.wire s offset ≤ limits.red_max

-- From an offset on nothing is free up to the next one, which is the same only where it is free.
pub record IsBehindTable (guard wire : ℕ) (table : List Slot) (s : Sending) (offset next : ℕ) : Type 0 where
  pub reached : offset ≤ next
  pub small : next ≤ MAX_OFFSET
  pub skipped : (x : ℕ) → offset ≤ x → x < next → ¬ All (IsClear guard (slot_of wire s x)) table
  pub clear : next ≡ offset → All (IsClear guard (slot_of wire s offset)) table

-- the same of the tables of all phases in which the frame is due
pub record IsBehind (limits : Limits) (rate : Rate) (wire : ℕ) (tables : List (List Slot)) (s : Sending) (offset next : ℕ) : Type 0 where
  pub reached : offset ≤ next
  pub small : next ≤ MAX_OFFSET
  pub skipped : (x : ℕ) → offset ≤ x → x < next → ¬ IsFree limits rate wire tables s x
  pub clear : next ≡ offset → IsFree limits rate wire tables s offset

-- the same of all sendings that hang on an anchor
pub record IsBehindAll (limits : Limits) (rate : Rate) (layout : Layout) (tables : List (List Slot)) (anchor offset next : ℕ) : Type 0 where
  pub reached : offset ≤ next
  pub small : next ≤ MAX_OFFSET
  pub skipped : (x : ℕ) → offset ≤ x → x < next → ¬ IsOpen limits rate layout tables anchor x
  pub clear : next ≡ offset → (s : Sending) → Contains layout.sendings s → s.anchor.0 ≡ anchor → IsFree limits rate layout.wire tables s offset
