use Rattle.std.proofs.Common.{◌≡◌, ◌++◌, take, map}
use Rattle.parcel_rules.specs.Cycle.{handed_on}
use Rattle.parcel_loads.proofs.flight.Flight.bring.Given as goal

abbrev pub invariant-loop-one : goal.invariant-loop-one
invariant-loop-one l = l.self ≡ record l.fn.self { handed = l.fn.self.handed ++ map (handed_on l.device) (take l.one-index l.sent) }
