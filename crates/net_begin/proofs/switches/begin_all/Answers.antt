use Rattle.std.proofs.Common.{arith, refl}
use Rattle.net_begin.proofs.Devices.{none_begun, one_begun, all_begun}
use Rattle.net_begin.proofs.switches.begin_all.Goals as goal

pub loop-index-init : goal.loop-index-init
loop-index-init c = none_begun _ _ _ _

pub loop-index-preserved : goal.loop-index-preserved
loop-index-preserved c =
    let count = c.loop-index.invariant.count in
    one_begun _ _ _ _ _ _ _ _ c.index-switches-index.result _ c.loop-index.invariant (omega arith) refl c.keeps_step-step.ensures c.begin.ensures

pub returns : goal.returns
returns c = all_begun _ _ _ c.loop-index.index _ _ c.loop-index.invariant (omega arith)
