use Rattle.std.proofs.Common.{sym, ◌∙◌}
use Rattle.irt_base.specs.declared.numbers.DevId.{DevId}
use Rattle.irt_base.specs.declared.numbers.PortNo.{PortNo}
use Rattle.frame_ways.proofs.Lists.{no_entry}
use Rattle.frame_ways.proofs.Onward.{far_entry, next_of}
use Rattle.frame_ways.proofs.stops.next_stop.Goals as goal

pub unreachable-requires : goal.unreachable-requires
unreachable-requires c =
    let receiver = c.requires.tree.sent c.args.stop.device.0 c.args.port.0 c.args.stop.entry c.requires.stands c.requires.leaves in
    let end : DevId × PortNo = (record { 0 = receiver.receiver }, record { 0 = receiver.e.rx_port }) in
    no_entry end (sym c.in_default.is ∙ c.peer.ensures ∙ c.requires.index.peers c.args.stop.device.0 c.args.port.0 ∙ receiver.leads)

pub unreachable-requires-in_default-entry_of : goal.unreachable-requires-in_default-entry_of
unreachable-requires-in_default-entry_of c =
    let receiver = c.requires.tree.sent c.args.stop.device.0 c.args.port.0 c.args.stop.entry c.requires.stands c.requires.leaves in
    let over = sym (c.requires.index.peers c.args.stop.device.0 c.args.port.0) ∙ sym c.peer.ensures ∙ c.in-Some.is in
    let far = far_entry c.args.plant.now c.args.base.now c.args.stop.device.0 c.args.port.0 _ _ receiver over in
    no_entry far.e (sym c.in_default-entry_of.is ∙ c.entry_of.ensures ∙ far.stands)

pub returns : goal.returns
returns c =
    let receiver = c.requires.tree.sent c.args.stop.device.0 c.args.port.0 c.args.stop.entry c.requires.stands c.requires.leaves in
    let over = sym (c.requires.index.peers c.args.stop.device.0 c.args.port.0) ∙ sym c.peer.ensures ∙ c.in-Some.is in
    next_of c.args.plant.now c.args.base.now c.args.stop c.args.port.0 c.in-Some-hop.hop _ _ c.in-Some-entry_of.entry c.stop_behind.result receiver over
    (sym (c.requires.index.hops c.args.stop.device.0 c.args.port.0) ∙ sym c.hop.ensures.value ∙ c.in-Some-hop.is) c.in-Some-hop.ensures.small
    (sym c.entry_of.ensures ∙ c.in-Some-entry_of.is) c.stop_behind.ensures
