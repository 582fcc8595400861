use Rattle.std.proofs.Common.{◌≡◌, drop, bytes_eq}
use Rattle.std.specs.List.{position_from}
use Rattle.plant_shape.specs.declared.raw.RawDevice.{RawDevice}
use Rattle.irt_topo.proofs.stated.place_of.Given as goal

abbrev pub invariant-loop-place : goal.invariant-loop-place
invariant-loop-place l =
    position_from (λ (d : RawDevice). bytes_eq d.name l.name) l.place (drop l.place l.devices)
    ≡ position_from (λ (d : RawDevice). bytes_eq d.name l.name) 0 l.devices
