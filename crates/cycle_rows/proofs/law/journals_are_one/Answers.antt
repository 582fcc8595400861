use Rattle.cycle_rows.proofs.Ordered.{one_list}
use Rattle.cycle_rows.proofs.Journals.{one_segment, one_journal}
use Rattle.cycle_rows.proofs.law.journals_are_one.Goals as goal

pub returns-clause-rows : goal.returns-clause-rows
returns-clause-rows c = λ rows others order also same. one_list rows others order also (λ r. (same r).0) (λ r. (same r).1)

pub returns-clause-segments : goal.returns-clause-segments
returns-clause-segments c = one_segment

pub returns-clause-journals : goal.returns-clause-journals
returns-clause-journals c = one_journal
