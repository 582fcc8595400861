use Rattle.std.proofs.Common.{◌≡◌, take, ℕ}
use Rattle.std.specs.Prelude.{flat_map}
use Rattle.std.specs.List.{enumerate_from}
use Rattle.irt_base.specs.declared.plants.Device.{Device}
use Rattle.parcel_rules.specs.Cycle.{ports_at}
use Rattle.net_parcels.proofs.outlets.ports.Given as goal

abbrev pub invariant-loop-device : goal.invariant-loop-device
invariant-loop-device l = l.ports ≡ flat_map (λ (d : ℕ × Device). ports_at d.0 d.1) (take l.device (enumerate_from 0 l.plant.devices))
