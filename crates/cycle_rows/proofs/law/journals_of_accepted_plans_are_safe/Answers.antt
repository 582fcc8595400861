use Rattle.cycle_rows.proofs.Once.{safe_journal, safe_frames}
use Rattle.cycle_rows.proofs.law.journals_of_accepted_plans_are_safe.Goals as goal

pub returns-clause-parcels : goal.returns-clause-parcels
returns-clause-parcels c = λ plant bundles plan accepted world ranges parcels keep cycles rows journal.
    safe_journal plant bundles world (c.accepted_plans_are_safe.ensures plant bundles plan accepted world ranges) parcels keep cycles rows journal

pub returns-clause-frames : goal.returns-clause-frames
returns-clause-frames c = λ plant bundles plan accepted world ranges cycles rows journal.
    safe_frames plant bundles world (c.accepted_plans_are_safe.ensures plant bundles plan accepted world ranges) cycles rows journal
