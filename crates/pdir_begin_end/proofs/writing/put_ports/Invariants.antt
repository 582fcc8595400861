use Rattle.std.proofs.Common.{◌≡◌, ◌++◌, take}
use Rattle.std.specs.List.{flat_map}
use Rattle.pdir_begin_end.specs.Periods.{port_bytes}
use Rattle.pdir_begin_end.proofs.writing.put_ports.Given as goal

-- what came so far is written
abbrev pub invariant-loop-port : goal.invariant-loop-port
invariant-loop-port l = l.out.items ≡ l.fn.out.items ++ flat_map port_bytes (take l.port-index l.ports)
