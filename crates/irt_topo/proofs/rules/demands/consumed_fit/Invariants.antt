use Rattle.std.proofs.Common.{◌≡◌, drop, nat_le}
use Rattle.irt_base.specs.declared.limits.TheConstants.{MAX_WORDS}
use Rattle.plant_rules.specs.Words.{words_where, consumes}
use Rattle.irt_topo.proofs.rules.demands.consumed_fit.Given as goal

abbrev pub invariant-loop-demand : goal.invariant-loop-demand
invariant-loop-demand l =
    nat_le (words_where (consumes l.device) (drop l.demand-index l.demands)) l.left ≡ nat_le (words_where (consumes l.device) l.demands) MAX_WORDS
