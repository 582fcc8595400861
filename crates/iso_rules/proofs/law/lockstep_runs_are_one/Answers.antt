use Rattle.cycle_rows.specs.Journal.{IsJournal}
use Rattle.iso_rules.proofs.Lockstepped.{one_lockstep, one_record}
use Rattle.std.proofs.Common.{length}
use Rattle.iso_rules.proofs.law.lockstep_runs_are_one.Goals as goal

pub returns-clause-runs : goal.returns-clause-runs
returns-clause-runs g c = one_lockstep g.A.IsoApp.reply g.A.IsoApp.next_state

pub returns-clause-records : goal.returns-clause-records
returns-clause-records g c = λ setup world states parcels.
    one_record g.A.IsoApp.reply g.A.IsoApp.next_state setup world states (IsJournal setup world parcels (length world))
    (c.journals_are_one.ensures.journals setup world parcels (length world))
