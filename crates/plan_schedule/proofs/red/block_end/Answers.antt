use Rattle.std.proofs.Common.{◌+◌, arith}
use Rattle.plan_schedule.specs.Greatest.{IsPortBegin}
use Rattle.plan_schedule.proofs.GreatestLemmas.{greatest_next}
use Rattle.plan_schedule.proofs.RedLemmas.{block_begins}
use Rattle.plan_schedule.proofs.red.block_end.Goals as goal

pub loop-index-preserved : goal.loop-index-preserved
loop-index-preserved c =
    greatest_next (λ n begin. IsPortBegin c.args.block.now (n + 1) begin) c.loop-index.index c.loop-index.end c.port_end.result c.loop-index.invariant
    c.port_end.ensures _ c.max-end.ensures

pub returns : goal.returns
returns c = block_begins c.args.block.now c.loop-index.index c.loop-index.end (omega arith) c.loop-index.invariant
