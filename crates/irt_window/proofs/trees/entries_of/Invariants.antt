use Rattle.std.proofs.Common.{◌≡◌, map, take}
use Rattle.irt_base.specs.declared.blocks.Bundle.{Bundle}
use Rattle.irt_window.proofs.trees.entries_of.Given as goal

abbrev pub invariant-loop-bundle : goal.invariant-loop-bundle
invariant-loop-bundle l = l.rows ≡ map (λ (b : Bundle). b.frames.entries) (take l.bundle-index l.bundles)
