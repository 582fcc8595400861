use Rattle.plan_run.proofs.SafeRuns.{safe_run}
use Rattle.plan_run.proofs.law.runs_of_accepted_plans_are_safe.Goals as goal

pub returns : goal.returns
returns c = λ plant bundles plan accepted pace walks world r fits some is.
    safe_run (record { journal = c.parcels_of_accepted_plans_are_apart.ensures.journal; legal = c.lockstep_records_are_legal.ensures }) plant bundles walks world r pace plan accepted
    (c.fitting_worlds_are_in_range.ensures plant bundles world fits) some is
