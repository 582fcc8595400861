use Rattle.sync_world.proofs.OneReport.{one_report}
use Rattle.sync_world.proofs.law.reports_are_one.Goals as goal

pub returns : goal.returns
returns c = λ seed plant tree other cycles is also.
    one_report (record { walk = c.fronts_of_best_walks.ensures.one; parent = c.parents_of_trees.ensures.one }) plant tree other is also seed cycles
