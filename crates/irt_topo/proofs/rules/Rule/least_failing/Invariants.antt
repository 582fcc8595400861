use Rattle.std.proofs.Common.{◌≡◌, ◌-◌, not}
use Rattle.irt_topo.specs.Clocks.{least_from}
use Rattle.irt_topo.specs.Rules.{holds, least_failing}
use Rattle.irt_topo.proofs.rules.Rule.least_failing.Given as goal

abbrev pub invariant-loop-index : goal.invariant-loop-index
invariant-loop-index l = least_from (λ index. not (holds l.self l.plant index)) l.index (l.index-end - l.index) ≡ least_failing l.self l.plant
