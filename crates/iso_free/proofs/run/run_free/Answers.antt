use Rattle.iso_plant.specs.Replay.{setup_in, world_in}
use Rattle.iso_rules.specs.Legal.{IsLegal}
use Rattle.iso_run.specs.Run.{IsRunJournal}
use Rattle.irt_world.specs.Rows.{world_rows}
use Rattle.plan_rules.specs.Plan.{setup_of}
use Rattle.record_text.specs.Text.{run_of}
use Rattle.record_text.specs.declared.record.Record.{Record}
use Rattle.iso_free.proofs.Legality.{if_ok, legal_moved}
use Rattle.iso_free.proofs.run.run_free.Goals as goal

pub returns-in-Ok-clause-legal : goal.returns-in-Ok-clause-legal
returns-in-Ok-clause-legal g c =
    let p = c.in-Ok.plant in
    let e = c.in-Ok.ensures in
    let a = c.args.accepted.now in
    if_ok c.open_run.result
    (λ (r : Record). IsLegal g.A.IsoApp.reply g.A.IsoApp.next_state (setup_in p) (world_in p) c.args.apps (IsRunJournal p.plant p.bundles p.walks p.world) (run_of r))
    (λ (r : Record). IsLegal g.A.IsoApp.reply g.A.IsoApp.next_state (setup_of a.plant a.bundles) (world_rows a.plant a.bundles c.args.world) c.args.apps
    (IsRunJournal a.plant a.bundles c.args.routes.now.walks c.args.world) (run_of r))
    (λ r h. legal_moved g.A.IsoApp.reply g.A.IsoApp.next_state c.args.apps p a.plant a.bundles c.args.routes.now.walks c.args.world r e.plant e.bundles e.walks e.world h)
    c.open_run.ensures.legal
