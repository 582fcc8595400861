use Rattle.std.specs.Prelude.{IfOk}
use Rattle.std.proofs.Common.{List, subst}
use Rattle.iso_plant.specs.Replay.{setup_in, world_in}
use Rattle.iso_rules.specs.Legal.{IsLegal}
use Rattle.iso_run.specs.Run.{IsRunJournal}
use Rattle.record_text.specs.Text.{run_of}
use Rattle.record_text.specs.declared.record.Record.{Record}
use Rattle.iso_free.proofs.run.open_run.Goals as goal

pub returns-in-Ok-clause-legal : goal.returns-in-Ok-clause-legal
returns-in-Ok-clause-legal g c =
    let p = c.args.plant in
    subst (λ (firsts : List _). IfOk c.run_named.result (λ (r : Record). IsLegal g.A.IsoApp.reply g.A.IsoApp.next_state (setup_in p) (world_in p) firsts
    (IsRunJournal p.plant p.bundles p.walks p.world) (run_of r)))
    c.in-Ok.ensures.apps c.run_named.ensures.legal
