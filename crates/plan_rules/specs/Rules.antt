-- The rules of a plan: number, fact and order.
use Rattle.std.specs.Prelude.{ℕ, List, [], ◌∷◌, slice_index_or, ⊤}
use Rattle.irt_base.specs.declared.blocks.Bundle.{Bundle}
use Rattle.irt_base.specs.declared.plants.Plant.{Plant}
use Rattle.plan_rules.specs.Frames.{IsTreeAt, AgreesWithDemand, HasNoIdleOffset, ForwardsLateEnough, KeepsApart, IsSentInRed, IsReceivedInRed, EndsInCycle}
use Rattle.plan_rules.specs.Headers.{RepeatsPlant, SharesRange, KeepsClock}
use Rattle.plan_rules.specs.Periods.{KeepsRedLimit, IsRedFrame, HasOrange, KeepsOrder}
use Rattle.plan_rules.specs.declared.place.Place.{Place}

-- V1, V2 and so on, in their order: what each asks of a place. This is their one list.
abbrev pub rule_table : Plant → List Bundle → List (Place → Type 0)
rule_table plant bundles =
    RepeatsPlant plant bundles
    ∷ IsTreeAt plant bundles
    ∷ AgreesWithDemand plant bundles
    ∷ HasNoIdleOffset plant bundles
    ∷ ForwardsLateEnough plant bundles
    ∷ KeepsApart plant bundles
    ∷ IsSentInRed plant bundles
    ∷ IsReceivedInRed plant bundles
    ∷ EndsInCycle plant bundles
    ∷ KeepsRedLimit plant bundles
    ∷ IsRedFrame plant bundles
    ∷ SharesRange plant bundles
    ∷ HasOrange plant bundles
    ∷ KeepsOrder plant bundles
    ∷ KeepsClock plant bundles
    ∷ []

abbrev pub AsksNothing : Place → Type 0
AsksNothing at = ⊤

-- The rule of a number, from 1, holds at a place. A number that no rule has asks nothing.
abbrev pub KeepsRule : Plant → List Bundle → ℕ → Place → Type 0
KeepsRule plant bundles number = slice_index_or (AsksNothing ∷ rule_table plant bundles) number AsksNothing
