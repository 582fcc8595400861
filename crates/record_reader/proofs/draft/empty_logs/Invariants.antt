use Rattle.std.proofs.Common.{◌≡◌, [], map, take}
use Rattle.irt_base.specs.declared.plants.App.{App}
use Rattle.record_laws.specs.Lines.{log_in}
use Rattle.record_reader.proofs.draft.empty_logs.Given as goal

abbrev pub invariant-loop : goal.invariant-loop
invariant-loop l = l.logs.items ≡ map (λ (a : App). log_in [] a.device.0) (take l.index l.items)
