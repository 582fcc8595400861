use Rattle.std.proofs.Common.{arith}
use Rattle.link_index.specs.Index.{peer_in}
use Rattle.irt_route.proofs.ClockLaws.{clocks_none, clocks_on, cut_off, way_none}
use Rattle.irt_route.proofs.clocks.grown_tree.Goals as goal

pub loop-device-init : goal.loop-device-init
loop-device-init c = clocks_none (peer_in c.args.index.now)

pub returns-in_default-clause-fault : goal.returns-in_default-clause-fault
returns-in_default-clause-fault c =
    cut_off (peer_in c.args.index.now) c.args.devices c.loop-device.device c.loop-device.parents c.loop-device.hops c.loop-device-test.true
    c.loop-device.invariant
    (way_none (peer_in c.args.index.now) c.next_hops_to-ways.result 0 _ c.next_hops_to-ways.ensures.ways c.next_hops_to-ways.ensures.target c.in_default.ensures)

pub loop-device-preserved : goal.loop-device-preserved
loop-device-preserved c =
    clocks_on (peer_in c.args.index.now) c.next_hops_to-ways.result c.loop-device.device c.from.result c.in-Some.way c.loop-device.parents
    c.add_walk.new.parents c.loop-device.hops (omega arith) (omega arith) c.from.ensures c.loop-device.invariant c.next_hops_to-ways.ensures.ways
    c.next_hops_to-ways.ensures.target c.in-Some.ensures c.in_ok-add_walk.ensures
