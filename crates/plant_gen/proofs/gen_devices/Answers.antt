use Rattle.std.proofs.Common.{◌+◌, arith}
use Rattle.plant_gen.specs.Generated.{generated_device}
use Rattle.plant_gen.proofs.Made.{made_more}
use Rattle.plant_gen.proofs.gen_devices.Goals as goal

pub loop-device-preserved : goal.loop-device-preserved
loop-device-preserved c =
    made_more (generated_device c.args.seed) 0 c.loop-device.device (c.loop-device.device + 1) c.loop-device.device c.loop-device.made c.push.new.self c.in_ok-gen_device.field-0
    c.in_ok-push.ensures.ok c.loop-device.invariant c.in_ok-gen_device.ensures (omega arith) (omega arith)
