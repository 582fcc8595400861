use Rattle.std.proofs.Common.{◌≡◌, map, take}
use Rattle.irt_topo.specs.Stated.{stated_port}
use Rattle.irt_topo.proofs.stated.stated_ports.Given as goal

abbrev pub invariant-loop-entry : goal.invariant-loop-entry
invariant-loop-entry l = l.ports ≡ map stated_port (take l.entry-index l.entries)
