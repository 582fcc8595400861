use Rattle.std.proofs.Common.{◌≡◌, ◌∙◌, ap, arith, sym, length}
use Rattle.std.proofs.lemmas.List.{length-map}
use Rattle.iso_plant.specs.Replay.{PlantView, setup_in, world_in}
use Rattle.iso_rules.specs.Legal.{IsLegal}
use Rattle.iso_run.specs.Run.{IsRunJournal}
use Rattle.record_text.specs.Text.{run_of}
use Rattle.record_text.specs.declared.record.Record.{Record}
use Rattle.iso_free.specs.Record.{IsRecordOf}
use Rattle.iso_free.proofs.Legality.{if_ok, legal_from, named_cycles}
use Rattle.iso_free.proofs.run.run_named.Goals as goal

pub new-requires-clause-buffers : goal.new-requires-clause-buffers
new-requires-clause-buffers g c app below =
    let begun = c.in-Ok.ensures in
    let count = begun.buffers_count in
    begun.each_buffer app (omega (arith, below, count))

pub returns-in-Ok-clause-cycles : goal.returns-in-Ok-clause-cycles
returns-in-Ok-clause-cycles g c =
    if_ok c.run_shared.result (λ (r : Record). (v : PlantView) × IsRecordOf g.A.IsoApp.reply g.A.IsoApp.next_state g.N.Firsts.firsts g.N.Naming.start v r)
    (λ (r : Record). r.cycles ≡ c.args.cycles)
    (λ r h. named_cycles g.N.Naming.start c.args.plant r.cycles c.args.cycles c.requires.start h.1.cycles c.requires.cycles) c.run_shared.ensures

pub returns-in-Ok-clause-legal : goal.returns-in-Ok-clause-legal
returns-in-Ok-clause-legal g c =
    let p = c.args.plant in
    if_ok c.run_shared.result (λ (r : Record). (v : PlantView) × IsRecordOf g.A.IsoApp.reply g.A.IsoApp.next_state g.N.Firsts.firsts g.N.Naming.start v r)
    (λ (r : Record). IsLegal g.A.IsoApp.reply g.A.IsoApp.next_state (setup_in p) (world_in p) g.N.Firsts.firsts (IsRunJournal p.plant p.bundles p.walks p.world) (run_of r))
    (λ r h. legal_from g.A.IsoApp.reply g.A.IsoApp.next_state g.N.Firsts.firsts g.N.Naming.start h.0 p r c.requires.start
    (ap (λ l. length l) (sym c.requires.firsts) ∙ (length-map c.args.openings.items (λ o. o.app) ∙ c.requires.count)) h.1) c.run_shared.ensures
