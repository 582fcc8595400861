use Rattle.std.proofs.Common.{◌≡◌, ◌++◌, take}
use Rattle.std.specs.List.{flat_map}
use Rattle.pd_blocks.specs.Global.{port_bytes}
use Rattle.pd_blocks.proofs.global.put_ports.Given as goal

-- the ports so far are written
abbrev pub invariant-loop-port : goal.invariant-loop-port
invariant-loop-port l = l.out.items ≡ l.fn.out.items ++ flat_map port_bytes (take l.port-index l.ports)
