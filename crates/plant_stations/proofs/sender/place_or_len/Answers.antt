use Rattle.std.proofs.Common.{◌≡◌, ◌==◌, position, None, Some, rules}
use Rattle.irt_base.specs.declared.plants.Demand.{Demand}
use Rattle.plant_stations.proofs.Lists.{first_place, no_place}
use Rattle.plant_stations.proofs.sender.place_or_len.Goals as goal

pub returns-in-None : goal.returns-in-None
returns-in-None c =
    let none : position (λ (d : Demand). d.frame.0 == c.args.frame.0) c.args.demands.now ≡ None = search rules in
    no_place (λ (d : Demand). d.frame.0 == c.args.frame.0) c.args.demands.now none

pub returns-in-Some : goal.returns-in-Some
returns-in-Some c =
    let at : position (λ (d : Demand). d.frame.0 == c.args.frame.0) c.args.demands.now ≡ Some c.in-Some.place = search rules in
    first_place (λ (d : Demand). d.frame.0 == c.args.frame.0) c.args.demands.now c.in-Some.place at
