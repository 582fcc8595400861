use Rattle.std.proofs.Common.{◌≡◌, drop}
use Rattle.irt_topo.specs.Rules.{all_differ}
use Rattle.irt_topo.proofs.rules.demands.all_differ.Given as goal

abbrev pub invariant-loop-place : goal.invariant-loop-place
invariant-loop-place l = all_differ (drop l.place l.devices) ≡ all_differ l.devices
