use Rattle.std.proofs.Common.{arith}
use Rattle.net_parcels.proofs.Placing.{device_more, devices_done}
use Rattle.net_parcels.proofs.outlets.ports.Goals as goal

pub loop-device-preserved : goal.loop-device-preserved
loop-device-preserved c =
    device_more c.args.plant.now _ _ c.loop-device.device c.port_count.result (omega arith) c.port_count.ensures c.loop-device.invariant c.in_ok-push_ports.ensures

pub returns : goal.returns
returns c = devices_done c.args.plant.now _ c.loop-device.device (omega arith) c.loop-device.invariant
