use Rattle.period_gate.specs.SentList.{sent_of}
use Rattle.parcel_rules.proofs.Rooms.{rows_within}
use Rattle.parcel_rules.proofs.Sums.{sum_none}
use Rattle.parcel_rules.specs.Cycle.{all_ports}
use Rattle.std.proofs.Common.{arith}
use Rattle.parcel_rules.proofs.law.parcels_keep_to_their_room.Goals as goal

pub returns-clause-cycle : goal.returns-clause-cycle
returns-clause-cycle c = λ plant bundles rules walks best world k.
    rows_within plant rules bundles walks best.each
    (λ gate kind. c.cycle_law.ensures.front gate (sent_of gate) (c.cycle_law.ensures.some gate) kind) world k

pub returns-clause-start : goal.returns-clause-start
returns-clause-start c = λ plant walks. let none = sum_none (all_ports plant) in omega arith
