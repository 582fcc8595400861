use Rattle.std.proofs.Common.{arith}
use Rattle.irt_switch.proofs.Begun.{none_begun, one_begun, all_begun}
use Rattle.irt_switch.proofs.gates.begin_gates.Goals as goal

pub loop-index-init : goal.loop-index-init
loop-index-init c = none_begun _ _ _

pub loop-index-preserved : goal.loop-index-preserved
loop-index-preserved c =
    one_begun _ _ _ _ _ _ _ _ _ c.loop-index.invariant (omega arith) c.period-tx.ensures c.parcel_limit-limit.ensures c.index-gates-index.is
    c.begin.ensures.begun c.begin.ensures.room

pub returns : goal.returns
returns c = all_begun _ _ c.loop-index.index _ _ c.loop-index.invariant (omega arith)
