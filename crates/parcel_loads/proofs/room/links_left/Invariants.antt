use Rattle.std.proofs.Common.{◌≡◌, drop}
use Rattle.parcel_rules.specs.Room.{links_left}
use Rattle.parcel_loads.proofs.room.links_left.Given as goal

abbrev pub invariant-loop-place : goal.invariant-loop-place
invariant-loop-place l = links_left l.device (drop l.place l.steps) ≡ links_left l.device l.steps
