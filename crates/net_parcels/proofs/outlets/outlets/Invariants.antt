use Rattle.parcel_rules.specs.Cycle.{all_ports}
use Rattle.net_parcels.proofs.Placing.{ArePlaced}
use Rattle.net_parcels.proofs.outlets.outlets.Given as goal

abbrev pub invariant-loop-place : goal.invariant-loop-place
invariant-loop-place l = ArePlaced l.site.plant (all_ports l.site.plant) l.place l.outlets.items
