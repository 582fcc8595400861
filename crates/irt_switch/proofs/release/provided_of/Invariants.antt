use Rattle.std.proofs.Common.{◌≡◌, take, filter}
use Rattle.irt_switch.specs.Release.{is_provided}
use Rattle.irt_switch.proofs.release.provided_of.Given as goal

abbrev pub invariant-loop-entry : goal.invariant-loop-entry
invariant-loop-entry l = l.provided.items ≡ filter is_provided (take l.entry-index l.entries)
