use Rattle.std.proofs.Common.{◌≡◌, drop, find}
use Rattle.irt_base.specs.Wiring.{touches}
use Rattle.plant_rules.proofs.wiring.link_at.Given as goal

abbrev pub invariant-loop-link : goal.invariant-loop-link
invariant-loop-link l = find (touches l.device.0 l.port.0) (drop l.link-index l.plant.links) ≡ find (touches l.device.0 l.port.0) l.plant.links
