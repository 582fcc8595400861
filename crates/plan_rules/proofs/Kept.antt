-- The rules of an accepted plan by name.
use Rattle.std.proofs.Common.{List}
use Rattle.irt_base.specs.declared.blocks.Bundle.{Bundle}
use Rattle.irt_base.specs.declared.plants.Plant.{Plant}
use Rattle.plan_rules.specs.Frames.{IsTreeAt, AgreesWithDemand, ForwardsLateEnough, KeepsApart, IsSentInRed, IsReceivedInRed, EndsInCycle}
use Rattle.plan_rules.specs.Headers.{RepeatsPlant}
use Rattle.plan_rules.specs.Periods.{KeepsOrder}
use Rattle.plan_rules.specs.Places.{IsAccepted}
use Rattle.plan_rules.specs.declared.place.Place.{Place}

module _ (plant : Plant) (bundles : List Bundle) (accepted : IsAccepted plant bundles) where
  pub header : (at : Place) → RepeatsPlant plant bundles at
  header = accepted 1

  pub trees : (at : Place) → IsTreeAt plant bundles at
  trees = accepted 2

  pub demands : (at : Place) → AgreesWithDemand plant bundles at
  demands = accepted 3

  pub forwards : (at : Place) → ForwardsLateEnough plant bundles at
  forwards = accepted 5

  pub apart : (at : Place) → KeepsApart plant bundles at
  apart = accepted 6

  pub sent : (at : Place) → IsSentInRed plant bundles at
  sent = accepted 7

  pub received : (at : Place) → IsReceivedInRed plant bundles at
  received = accepted 8

  pub ends : (at : Place) → EndsInCycle plant bundles at
  ends = accepted 9

  pub order : (at : Place) → KeepsOrder plant bundles at
  order = accepted 14
