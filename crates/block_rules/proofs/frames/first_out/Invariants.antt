use Rattle.std.proofs.Common.{◌≡◌, ◌<◌, ℕ, Some}
use Rattle.std.specs.List.{slice_get}
use Rattle.irt_base.specs.Valid.{IsWithin}
use Rattle.irt_base.specs.declared.blocks.Entry.{Entry}
use Rattle.block_rules.proofs.frames.first_out.Given as goal

abbrev pub invariant-loop-entry : goal.invariant-loop-entry
invariant-loop-entry l =
    (n : ℕ) (e : Entry) → n < l.entry-index → slice_get l.entries n ≡ Some e → IsWithin l.periods.first l.periods.last e.frame.0
