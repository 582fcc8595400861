use Rattle.std.proofs.Common.{arith}
use Rattle.irt_window.proofs.Steps.{next_device, all_devices}
use Rattle.irt_window.proofs.marking.mark_round.Goals as goal

pub loop-device-preserved : goal.loop-device-preserved
loop-device-preserved c = record {
  marks = c.mark_device-found.ensures.marks;
  step = next_device c.args.net.now c.loop-device.device c.args.marks.now c.loop-device.marks c.mark_device-found.new.marks c.loop-device.found
      c.mark_device-found.result c.loop-device.invariant.step c.mark_device-found.ensures.step;
}

pub returns-clause-step : goal.returns-clause-step
returns-clause-step c =
    all_devices c.args.net.now c.loop-device.device c.args.marks.now c.loop-device.marks c.loop-device.found (omega arith) c.loop-device.invariant.step
