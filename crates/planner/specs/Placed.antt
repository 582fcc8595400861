-- Placed frames in the tables. Times are ns.
use Rattle.std.specs.Prelude.{◌≡◌, ◌≢◌, ℕ, ◌+◌, List, length, Contains, Option, Some, None, slice_index_or}
use Rattle.irt_base.specs.Cycle.{IsDue, wire_time, guard_time}
use Rattle.irt_base.specs.declared.blocks.Entry.{Entry}
use Rattle.irt_base.specs.declared.plants.Plant.{Plant}
use Rattle.plan_rules.specs.SendWindow.{SendWindow}
use Rattle.fit_rules.specs.declared.frame_plan.FramePlan.{FramePlan}
use Rattle.fit_rules.specs.Fit.{IsUsing}
use Rattle.fit_rules.specs.Shape.{entry_of}
use Rattle.gap_table.specs.declared.slot.Slot.{Slot}
use Rattle.placement.specs.Layouts.{offset_at}
use Rattle.placement.specs.Tables.{IsPlace, table_at}
use Rattle.placement.specs.declared.layout.Anchor.{Anchor}
use Rattle.placement.specs.declared.layout.Limits.{Limits}
use Rattle.placement.specs.declared.layout.Rate.{Rate}
use Rattle.frame_ways.specs.FrameWays.{base_of}
use Rattle.frame_ways.specs.declared.frame_way.FrameWay.{FrameWay}

-- the plant's own limits
abbrev pub limits_of : Plant → Limits
limits_of plant = record { guard = guard_time plant.window; red_max = plant.red_max }

-- an entry in a rate, with an offset
abbrev pub placed_entry : Rate → ℕ → Option Entry → Option Entry
placed_entry rate offset None = None
placed_entry rate offset (Some e) = Some (record e { ratio = rate.ratio; phase = rate.phase; send_offset = offset })

-- all entries, with an offset at each device
pub record ArePlacedEntries (rate : Rate) (offsets : List ℕ) (entries placed : List (Option Entry)) : Type 0 where
  pub count : length placed ≡ length entries
  pub each : (device : ℕ) → slice_index_or placed device None ≡
      placed_entry rate (offset_at offsets device) (slice_index_or entries device None)

-- anchors keep their offsets, and all others have 0
pub record AreAnchorOffsets (anchors : List Anchor) (offsets kept : List ℕ) : Type 0 where
  pub at : (a : Anchor) → Contains anchors a → offset_at kept a.device.0 ≡ offset_at offsets a.device.0
  pub else : (device : ℕ) → ((a : Anchor) → Contains anchors a → a.device.0 ≢ device) → offset_at kept device ≡ 0

-- the frame of a way, in a rate and by the offsets of its anchors
pub record IsPlacedPlan (way : FrameWay) (rate : Rate) (offsets : List ℕ) (plan : FramePlan) : Type 0 where
  pub frame : plan.frame ≡ way.frame
  pub count : length plan.entries ≡ length way.entries
  pub kept : List ℕ
  pub are : AreAnchorOffsets way.layout.anchors offsets kept
  pub each : (device : ℕ) → entry_of plan device ≡
      placed_entry rate (offset_at kept device) (entry_of (base_of way) device)

-- when the frame may be on the link, by the clock of its anchor
abbrev pub slot_in : Entry → SendWindow → Slot
slot_in e w = record { lo = w.lo; end = w.hi + wire_time e.data_length; anchor = record { 0 = w.anchor } }

-- a placed frame that is due in cycle k is sent so by the port
pub record IsPlacedSlot (plant : Plant) (plans : List FramePlan) (device port k : ℕ) (s : Slot) : Type 0 where
  pub plan : FramePlan
  pub e : Entry
  pub w : SendWindow
  pub placed : Contains plans plan
  pub sends : IsUsing plant plan device port e w
  pub due : IsDue k e.ratio e.phase
  pub is : s ≡ slot_in e w

-- The tables hold the slots of the placed frames.
pub record HoldsPlans (plant : Plant) (plans : List FramePlan) (tables : List (List Slot)) : Type 0 where
  pub only : (device port k : ℕ) (s : Slot) → IsPlace device port k → Contains (table_at tables device port k) s →
      IsPlacedSlot plant plans device port k s
  pub all : (device port k : ℕ) (s : Slot) → IsPlace device port k → IsPlacedSlot plant plans device port k s →
      Contains (table_at tables device port k) s
