use Rattle.std.proofs.Common.{◌∙◌}
use Rattle.iso_plant.specs.Replay.{PlantView}
use Rattle.free_end.proofs.Parts.{parts_from}
use Rattle.free_plant.proofs.ByName.{run_count}
use Rattle.record_text.specs.declared.record.Record.{Record}
use Rattle.iso_free.specs.Record.{IsRecordOf}
use Rattle.iso_free.proofs.Legality.{if_ok}
use Rattle.iso_free.proofs.ending.close_run.Goals as goal

pub end_all-requires-clause-parts : goal.end_all-requires-clause-parts
end_all-requires-clause-parts g c =
    let d = c.into_parts-plant.ensures.done in
    parts_from g.N.Naming.start _ c.args.wires.items _ c.args.jobs.items c.requires.wires d.ports_count d.tied c.requires.numbers c.requires.found

pub record_run-requires-clause-count : goal.record_run-requires-clause-count
record_run-requires-clause-count g c =
    c.in-Ok.ensures.count ∙ (c.requires.wires.count ∙ run_count g.N.Naming.start c.into_parts-plant.result.0 c.into_parts-plant.ensures.done.run)

pub returns-in-Ok : goal.returns-in-Ok
returns-in-Ok g c =
    let v = c.into_parts-plant.result.0 in
    if_ok c.record_run.result
    (λ (r : Record). IsRecordOf g.A.IsoApp.reply g.A.IsoApp.next_state g.N.Firsts.firsts g.N.Naming.start v r)
    (λ (r : Record). (x : PlantView) × IsRecordOf g.A.IsoApp.reply g.A.IsoApp.next_state g.N.Firsts.firsts g.N.Naming.start x r)
    (λ r h. (v, h)) c.record_run.ensures
