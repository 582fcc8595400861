use Rattle.std.proofs.Common.{◌∙◌, sym}
use Rattle.iso_free.proofs.Legality.{record_of}
use Rattle.iso_free.proofs.ending.record_run.Goals as goal

pub returns-in-Ok : goal.returns-in-Ok
returns-in-Ok g c =
    let h = c.into_history-apps.ensures in
    record_of g.A.IsoApp.reply g.A.IsoApp.next_state g.N.Firsts.firsts g.N.Naming.start c.args.plant _ c.into_history-apps.result.apps c.args.turns
    c.requires.ended c.requires.cycles h.count (c.requires.count ∙ sym h.count) h.apps c.requires.turns c.in-Ok.ensures h.journal
