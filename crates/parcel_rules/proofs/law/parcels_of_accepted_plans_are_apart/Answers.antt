use Rattle.parcel_rules.specs.Rows.{parcel_rows}
use Rattle.period_gate.specs.SentList.{sent_of}
use Rattle.parcel_rules.proofs.Apart.{parcel_rows_keep}
use Rattle.parcel_rules.proofs.law.parcels_of_accepted_plans_are_apart.Goals as goal

pub returns-clause-rows : goal.returns-clause-rows
returns-clause-rows c = λ plant bundles plan accepted walks world k.
    parcel_rows_keep plant bundles plan accepted
    (λ gate. c.cycle_law.ensures.order gate (sent_of gate) (c.cycle_law.ensures.some gate)) walks world k

pub returns-clause-journal : goal.returns-clause-journal
returns-clause-journal c = λ plant bundles plan accepted walks world ranges cycles rows journal.
    c.journals_of_accepted_plans_are_safe.ensures.parcels plant bundles plan accepted world ranges (parcel_rows plant bundles walks world)
    (λ k. parcel_rows_keep plant bundles plan accepted
    (λ gate. c.cycle_law.ensures.order gate (sent_of gate) (c.cycle_law.ensures.some gate)) walks world k)
    cycles rows journal
