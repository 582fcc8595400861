use Rattle.io_buffers.specs.Passes.{published_by, taken_by}
use Rattle.free_end.proofs.BothSides.{closed_from}
use Rattle.free_end.proofs.closing.close.Goals as goal

pub returns-clause-closed : goal.returns-clause-closed
returns-clause-closed g c =
    let cycles = c.into_passes-output_taker in
    let app = c.into_passes-turns in
    closed_from g.A.IsoApp.reply g.A.IsoApp.next_state g.N.Firsts.firsts g.N.Naming.start c.args.wire c.args.job.number c.args.job.found c.args.port c.args.job.turns
    (taken_by cycles.result.0) (taken_by app.result.1) (published_by app.result.2) (published_by cycles.result.1)
    c.requires.job app.ensures.turned app.ensures.published cycles.ensures.taken cycles.ensures.published app.ensures.takes c.close.ensures.outputs c.close.ensures.inputs
