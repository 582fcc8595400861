use Rattle.std.proofs.Common.{◌<◌, ℕ, get_or}
use Rattle.irt_base.specs.Valid.{IsBundle}
use Rattle.irt_base.specs.declared.blocks.Bundle.{Bundle}
use Rattle.block_values.proofs.whole.are_bundles.Given as goal

abbrev pub invariant-loop-bundle : goal.invariant-loop-bundle
invariant-loop-bundle l = (k : ℕ) (d : Bundle) → k < l.bundle-index → IsBundle (get_or l.bundles k d)
