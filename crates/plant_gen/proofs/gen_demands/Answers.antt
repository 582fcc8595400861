use Rattle.std.proofs.Common.{◌+◌, arith}
use Rattle.plant_gen.specs.Generated.{generated_demand}
use Rattle.plant_gen.proofs.Made.{made_more}
use Rattle.plant_gen.proofs.gen_demands.Goals as goal

pub loop-number-preserved : goal.loop-number-preserved
loop-number-preserved c =
    made_more (generated_demand c.args.seed c.args.devices) 0 c.loop-number.number (c.loop-number.number + 1) c.loop-number.number c.loop-number.made c.push.new.self c.in_ok-gen_demand.field-0
    c.in_ok-push.ensures.ok c.loop-number.invariant c.in_ok-gen_demand.ensures (omega arith) (omega arith)
