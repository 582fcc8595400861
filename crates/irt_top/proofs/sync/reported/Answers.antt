use Rattle.std.proofs.Common.{◌∙◌, ap}
use Rattle.sync_world.specs.Report.{report_text}
use Rattle.irt_top.proofs.SyncLemmas.{report_gives}
use Rattle.irt_top.proofs.sync.reported.Goals as goal

pub returns-clause-step : goal.returns-clause-step
returns-clause-step c =
    report_gives c.args.plant.now c.args.cycles c.args.seed c.args.tree.now c.in_ok-report_text.field-0 c.requires.own
    (c.in_ok-report_text.ensures ∙ ap (report_text c.args.plant.now) (c.as_slice.ensures ∙ c.in_ok-lines.ensures))
