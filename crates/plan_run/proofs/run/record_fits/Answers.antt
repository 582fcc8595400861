use Rattle.plan_run.proofs.LegalRuns.{run_fits}
use Rattle.plan_run.proofs.run.record_fits.Goals as goal

pub returns : goal.returns
returns c =
    let (pace, walks, world, some, is) = c.requires in
    let a = c.args.accepted.now in
    run_fits a.plant a.bundles walks world c.args.log.now c.lockstep_records_are_legal.ensures c.legal_records_fit.ensures pace c.facts.ensures.plan c.facts.ensures.accepted some is
    c.numbers_are_in_range.ensures
