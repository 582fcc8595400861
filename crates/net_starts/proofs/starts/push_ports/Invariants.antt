use Rattle.std.proofs.Common.{◌+◌, ◌≤◌, ◌++◌, map, take, length, IsPermutation}
use Rattle.std.specs.List.{filter}
use Rattle.cycle_events.specs.Events.{is_bit, event}
use Rattle.cycle_events.specs.declared.events.What.TheVariants.{Start}
use Rattle.net_starts.proofs.starts.push_ports.Given as goal

abbrev pub invariant-loop-port : goal.invariant-loop-port
invariant-loop-port l = record {
  put : IsPermutation (map (λ port. event l.start.at l.start.device.0 port l.start.frame.0 Start) (filter (is_bit l.ports) (take l.port-index l.among))
      ++ l.fn.queue.events) l.queue.events;
  room : l.fn.queue.room ≤ l.queue.room + length (filter (is_bit l.ports) (take l.port-index l.among));
}
