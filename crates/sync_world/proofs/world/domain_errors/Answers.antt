use Rattle.std.proofs.Common.{sym, ◌∙◌}
use Rattle.sync_world.proofs.Reports.{line_count}
use Rattle.sync_world.proofs.world.domain_errors.Goals as goal

pub all_errors-requires-clause-count : goal.all_errors-requires-clause-count
all_errors-requires-clause-count c =
    c.requires.count
    ∙ sym (line_count c.args.seed c.args.plant.now c.args.tree.now c.args.send c.in_ok-domain.domain c.in_ok-domain.ensures.value)
