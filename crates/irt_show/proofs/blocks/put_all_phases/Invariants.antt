use Rattle.std.proofs.Common.{◌≡◌, ◌+◌, ◌++◌, drop}
use Rattle.irt_show.specs.Show.{numbered, phases_line}
use Rattle.irt_show.proofs.blocks.put_all_phases.Given as goal

-- what is printed and what is still to come are the whole text
abbrev pub invariant-loop-port : goal.invariant-loop-port
invariant-loop-port l = (l.number ≡ l.port-index + 1) × (l.out.items ++ numbered phases_line l.number (drop l.port-index l.ports) ≡ l.initial.out.items ++ numbered phases_line 1 l.ports)
