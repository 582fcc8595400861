use Rattle.std.proofs.Common.{◌≡◌, ◌++◌, map}
use Rattle.std.specs.List.{range_with_len}
use Rattle.net_parcels.specs.Outlets.{port_of}
use Rattle.net_parcels.proofs.outlets.push_ports.Given as goal

abbrev pub invariant-loop-number : goal.invariant-loop-number
invariant-loop-number l = l.ports ≡ l.fn.ports ++ map (port_of l.device) (range_with_len 1 l.number)
