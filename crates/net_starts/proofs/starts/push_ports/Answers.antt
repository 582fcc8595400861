use Rattle.std.proofs.Common.{◌+◌, arith, refl, slice_index_or}
use Rattle.cycle_events.specs.Events.{is_bit}
use Rattle.net_starts.proofs.Ports.{put_more, filter_step, filter_fits}
use Rattle.net_starts.proofs.starts.push_ports.Goals as goal

pub push_port-requires-clause-room : goal.push_port-requires-clause-room
push_port-requires-clause-room c =
    let i = c.loop-port.port-index in
    let step = filter_step (is_bit c.args.ports) c.args.among.now i (slice_index_or c.args.among.now i 0) 0 (omega arith) refl in
    let fits = filter_fits (is_bit c.args.ports) c.args.among.now (i + 1) in
    let room = c.loop-port.invariant.room in
    let all = c.requires.room in
    omega arith

pub loop-port-preserved : goal.loop-port-preserved
loop-port-preserved c =
    let i = c.loop-port.port-index in
    let step = filter_step (is_bit c.args.ports) c.args.among.now i (slice_index_or c.args.among.now i 0) 0 (omega arith) refl in
    record {
      put = put_more _ (is_bit c.args.ports) c.args.among.now i (slice_index_or c.args.among.now i 0) 0 _ _ _ (omega arith) refl c.loop-port.invariant.put
          c.push_port.ensures.put;
      room = omega arith;
    }
