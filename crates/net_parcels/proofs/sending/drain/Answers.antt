use Rattle.net_parcels.proofs.Drained.{one_put}
use Rattle.net_parcels.proofs.sending.drain.Goals as goal

pub loop-call-preserved : goal.loop-call-preserved
loop-call-preserved c =
    one_put _ _ _ _ _ _ _ c.requires c.loop-call.invariant _ c.in-Some.one _ c.loop-call-test.true c.in-Some.ensures.given c.in-Some.ensures.left c.push.ensures
