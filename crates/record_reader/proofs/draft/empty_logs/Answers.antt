use Rattle.record_reader.proofs.Grown.{empty_more}
use Rattle.record_reader.proofs.draft.empty_logs.Goals as goal

pub loop-preserved : goal.loop-preserved
loop-preserved c =
    empty_more c.as_slice-items.result.now c.loop.index c.loop.logs.items c.push.new.self.items _ c.loop-test.true c.empty_log.ensures c.loop.invariant c.in_ok-push.ensures.items
