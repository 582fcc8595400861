use Rattle.std.proofs.Common.{◌≡◌, ◌-◌}
use Rattle.irt_topo.specs.Clocks.{least_from, is_reached, hops_within}
use Rattle.irt_topo.proofs.Rounds.{Shows}
use Rattle.irt_topo.proofs.rules.clocks.hops_within.Given as goal

abbrev pub invariant-loop-rounds : goal.invariant-loop-rounds
invariant-loop-rounds l =
    (least_from (λ rounds. is_reached l.plant rounds l.device) l.rounds (l.most - l.rounds) ≡ hops_within l.plant l.device)
    × Shows l.plant l.rounds l.reached
