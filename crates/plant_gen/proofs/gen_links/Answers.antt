use Rattle.std.proofs.Common.{◌+◌, ◌-◌, arith}
use Rattle.plant_gen.specs.Generated.{generated_link}
use Rattle.plant_gen.proofs.Made.{made_more}
use Rattle.plant_gen.proofs.gen_links.Goals as goal

pub loop-device-preserved : goal.loop-device-preserved
loop-device-preserved c =
    made_more (generated_link c.args.seed) 1 (c.loop-device.device - 1) (c.loop-device.device + 1 - 1) c.loop-device.device c.loop-device.made c.push.new.self c.gen_link.result
    c.in_ok-push.ensures.ok c.loop-device.invariant c.gen_link.ensures (omega arith) (omega arith)
