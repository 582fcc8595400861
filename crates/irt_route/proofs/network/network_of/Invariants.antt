use Rattle.std.proofs.Common.{◌≡◌, length}
use Rattle.irt_route.specs.Routes.{IsNetwork}
use Rattle.irt_route.proofs.network.network_of.Given as goal

abbrev pub invariant-loop-device : goal.invariant-loop-device
invariant-loop-device l = record { count : length l.ways ≡ l.device; network : IsNetwork l.fn.index l.ways }
