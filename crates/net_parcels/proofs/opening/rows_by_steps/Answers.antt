use Rattle.std.proofs.Common.{arith}
use Rattle.net_parcels.proofs.Counts.{all_rows, one_added}
use Rattle.net_parcels.proofs.opening.rows_by_steps.Goals as goal

pub loop-number-preserved : goal.loop-number-preserved
loop-number-preserved c =
    one_added c.args.entries.now c.args.steps.now c.loop-number.number c.loop-number.rows c.in_ok-rows.rows _ _ _ (omega arith) (omega (arith, c.requires))
    c.index-steps-number.is c.len.ensures c.loop-number.invariant (c.in_ok-rows.ensures {u = tt})

pub returns : goal.returns
returns c = all_rows _ _ c.loop-number.number _ (omega arith) c.loop-number.invariant
