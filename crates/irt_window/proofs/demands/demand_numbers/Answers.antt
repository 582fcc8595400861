use Rattle.irt_window.proofs.Numbering.{filled_step}
use Rattle.irt_window.proofs.demands.demand_numbers.Goals as goal

pub loop-number-preserved : goal.loop-number-preserved
loop-number-preserved c =
    filled_step c.args.plant.now c.as_slice.result.now c.loop-number.number c.loop-number.numbers c.set.new.self c.index-as_slice-number.result
    c.from.result c.requires c.loop-number.invariant c.loop-number-test.true c.as_slice.ensures c.index-as_slice-number.is c.from.ensures
    c.set.ensures
