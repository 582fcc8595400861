-- Entries and their ways, side by side.
use Rattle.std.specs.Prelude.{◌≡◌, ℕ, ◌^◌, ◌<◌, ◌≤◌, List, Some, length, slice_get}
use Rattle.std.specs.List.Sorted.{IsStrictlyIncreasing}
use Rattle.irt_base.specs.Valid.{frames_of}
use Rattle.irt_base.specs.declared.blocks.Entry.{Entry}
use Rattle.plan_rules.specs.declared.way.Way.{Way}

-- a way for each entry
abbrev pub AreBeside : List (List Entry) → List (List Way) → Type 0
AreBeside entries ways = (length ways ≡ length entries) × ((device : ℕ) (row : List Entry) (beside : List Way) →
    slice_get entries device ≡ Some row → slice_get ways device ≡ Some beside → length beside ≡ length row)

-- the FrameIDs of each device ascend
abbrev pub AreAscending : List (List Entry) → Type 0
AreAscending entries = (device : ℕ) (row : List Entry) → slice_get entries device ≡ Some row → IsStrictlyIncreasing (frames_of row)

-- windows are in order, and small
abbrev pub AreOrdered : List (List Way) → Type 0
AreOrdered ways = (device n : ℕ) (row : List Way) (way : Way) → slice_get ways device ≡ Some row → slice_get row n ≡ Some way →
    (way.lo ≤ way.hi) × (way.hi < 2 ^ 39)
