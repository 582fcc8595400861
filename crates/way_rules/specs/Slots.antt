-- The entries that leave by a port, as slots of its link direction.
use Rattle.std.specs.Prelude.{◌≡◌, ℕ, ◌+◌, ◌^◌, ◌<◌, ◌≤◌, List, Some, Contains, length, slice_get}
use Rattle.std.specs.List.Sorted.{IsStrictlyIncreasing}
use Rattle.irt_base.specs.Cycle.{wire_time}
use Rattle.irt_base.specs.Valid.{IsEntry, frames_of}
use Rattle.irt_base.specs.declared.blocks.Entry.{Entry}
use Rattle.plan_rules.specs.Way.{Leaves}
use Rattle.plan_rules.specs.declared.way.Way.{Way}
use Rattle.window_sweep.specs.Slots.{AreSendSlots}
use Rattle.window_sweep.specs.declared.slot.SendSlot.{SendSlot}

-- an entry and its way
pub record IsTimed (e : Entry) (way : Way) : Type 0 where
  pub valid : IsEntry e
  pub ordered : way.lo ≤ way.hi
  pub small : way.hi < 2 ^ 39

-- entries that ascend, and their ways
pub record AreTimed (entries : List Entry) (own : List Way) : Type 0 where
  pub count : length own ≡ length entries
  pub ascending : IsStrictlyIncreasing (frames_of entries)
  pub each : (n : ℕ) (e : Entry) (way : Way) → slice_get entries n ≡ Some e → slice_get own n ≡ Some way → IsTimed e way

-- from the earliest start until the latest end
abbrev pub slot_of : Entry → Way → SendSlot
slot_of e way = record {
  lo = way.lo;
  end = way.hi + wire_time e.data_length;
  anchor = way.anchor;
  frame = e.frame;
  ratio = e.ratio;
  phase = e.phase;
}

-- the slot of an entry that leaves by the port, one of the first so many
pub record IsSlotOf (entries : List Entry) (own : List Way) (port n : ℕ) (s : SendSlot) : Type 0 where
  pub place : ℕ
  pub e : Entry
  pub way : Way
  pub before : place < n
  pub stands : slice_get entries place ≡ Some e
  pub comes : slice_get own place ≡ Some way
  pub leaves : Leaves e port
  pub is : s ≡ slot_of e way

-- the slots of those of the first so many entries that leave by the port
pub record AreSlots (entries : List Entry) (own : List Way) (port n : ℕ) (slots : List SendSlot) : Type 0 where
  pub valid : AreSendSlots slots
  pub each : (s : SendSlot) → Contains slots s → IsSlotOf entries own port n s
  pub all : (place : ℕ) (e : Entry) (way : Way) → place < n → slice_get entries place ≡ Some e → slice_get own place ≡ Some way →
      Leaves e port → Contains slots (slot_of e way)
