use Rattle.std.proofs.Common.{◌<◌, ℕ, get_or}
use Rattle.irt_base.specs.Valid.{IsEntry}
use Rattle.irt_base.specs.declared.blocks.Entry.{Entry}
use Rattle.block_values.proofs.frames.are_entries.Given as goal

abbrev pub invariant-loop-e : goal.invariant-loop-e
invariant-loop-e l = (k : ℕ) (d : Entry) → k < l.e-index → IsEntry (get_or l.entries k d)
