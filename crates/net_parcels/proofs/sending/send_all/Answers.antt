use Rattle.std.proofs.Common.{arith}
use Rattle.std.proofs.lemmas.Option.{slice_get-get_or}
use Rattle.net_parcels.proofs.Sendings.{none_sent, is_gated, one_sent, all_sent}
use Rattle.net_parcels.proofs.sending.send_all.Goals as goal

pub loop-index-init : goal.loop-index-init
loop-index-init c = none_sent _ _ c.requires.gated

pub send-requires : goal.send-requires
send-requires c =
    is_gated _ _ _ _ _ _ c.loop-index.invariant (slice_get-get_or c.loop-index.outlets c.loop-index.index c.index-outlets-index.result (omega arith))

pub loop-index-preserved : goal.loop-index-preserved
loop-index-preserved c =
    one_sent _ _ _ _ _ _ _ _ c.loop-index.invariant c.requires.apart
    (slice_get-get_or c.loop-index.outlets c.loop-index.index c.index-outlets-index.result (omega arith)) c.send.ensures.outlet c.send.ensures.sent

pub returns-clause-sent : goal.returns-clause-sent
returns-clause-sent c = all_sent _ _ _ _ _ c.loop-index.invariant (omega arith)
