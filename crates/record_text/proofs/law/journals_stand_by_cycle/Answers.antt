use Rattle.record_text.proofs.Standing.{stand_by_cycle}
use Rattle.record_text.proofs.law.journals_stand_by_cycle.Goals as goal

pub returns : goal.returns
returns c = λ setup world parcels cycles rows own journal. stand_by_cycle setup world parcels own cycles rows journal
