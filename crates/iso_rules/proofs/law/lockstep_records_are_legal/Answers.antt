use Rattle.std.proofs.Common.{length}
use Rattle.cycle_rows.specs.Journal.{IsJournal}
use Rattle.iso_rules.proofs.LegalRuns.{lockstep_is_legal}
use Rattle.iso_rules.proofs.law.lockstep_records_are_legal.Goals as goal

pub returns : goal.returns
returns g c = λ setup world states parcels.
    lockstep_is_legal g.A.IsoApp.reply g.A.IsoApp.next_state setup world states (IsJournal setup world parcels (length world))
