-- Where a frame stands in a block.
use Rattle.std.specs.Prelude.{◌≡◌, ℕ, ◌==◌, List, Option, Some, None, find, slice_get}
use Rattle.irt_base.specs.declared.blocks.Entry.{Entry}

-- the entry of a frame in a block
abbrev pub entry_in : List Entry → ℕ → Option Entry
entry_in entries frame = find (λ (e : Entry). e.frame.0 == frame) entries

-- The place of a frame's entry, or none where it has none.
abbrev pub IsEntryIndex : List Entry → ℕ → Option ℕ → Type 0
IsEntryIndex entries frame None = entry_in entries frame ≡ None
IsEntryIndex entries frame (Some n) = (e : Entry) × (slice_get entries n ≡ Some e) × (entry_in entries frame ≡ Some e) × (e.frame.0 ≡ frame)
