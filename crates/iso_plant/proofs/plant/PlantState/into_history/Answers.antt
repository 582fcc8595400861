use Rattle.std.proofs.Common.{◌∙◌, ap, subst}
use Rattle.iso_plant.proofs.Widths.{count_is, lists_are}
use Rattle.iso_plant.specs.Replay.{IsReplay, PlantView}
use Rattle.iso_plant.proofs.plant.PlantState.into_history.Goals as goal

pub returns-clause-count : goal.returns-clause-count
returns-clause-count c = count_is _ c.self.invariant _ c.self.view_is _ c.from_vec.ensures

pub returns-clause-apps : goal.returns-clause-apps
returns-clause-apps c n a at = lists_are _ c.self.invariant _ c.self.view_is _ c.from_vec.ensures n a at

pub returns-clause-journal : goal.returns-clause-journal
returns-clause-journal c = c.into_rows.ensures ∙ ap (λ (v : PlantView). v.rows) c.self.view_is

pub returns-clause-replay : goal.returns-clause-replay
returns-clause-replay c = subst IsReplay c.self.view_is c.self.invariant.replay
