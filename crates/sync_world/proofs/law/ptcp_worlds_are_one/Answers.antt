use Rattle.sync_world.proofs.OneReport.{one_ptcp_world}
use Rattle.sync_world.proofs.law.ptcp_worlds_are_one.Goals as goal

pub returns : goal.returns
returns c = λ seed plant bundles tree other send timeouts cycles is also.
    one_ptcp_world (record { walk = c.fronts_of_best_walks.ensures.one; parent = c.parents_of_trees.ensures.one }) plant tree other is also bundles seed send timeouts cycles
