-- How many frames start and arrive in a cycle at most, by the entries of the blocks.
use Rattle.std.specs.Prelude.{ℕ, ◌+◌, List, length, sum_by}
use Rattle.cycle_events.specs.Events.{ports_in}
use Rattle.irt_base.specs.declared.blocks.Bundle.{Bundle}
use Rattle.irt_base.specs.declared.blocks.Entry.{Entry}

-- An entry receives the frame once, and sends it by each of its ports: with a tx of 0x15 these are 3.
abbrev pub entry_places : Entry → ℕ
entry_places e = 1 + length (ports_in e.tx)

abbrev pub bundle_places : Bundle → ℕ
bundle_places b = sum_by entry_places b.frames.entries

abbrev pub plan_places : List Bundle → ℕ
plan_places bundles = sum_by bundle_places bundles
