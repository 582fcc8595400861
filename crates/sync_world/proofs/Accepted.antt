-- Accepted plans have budgets within the window.
use Rattle.std.proofs.Common.{◌≡◌, ℕ, ◌≤◌, ◌==◌, Bool, true, false, if◌then◌else◌, List, map, length, get_or, Some, slice_get, slice_index, refl, sym, ◌∙◌, subst, inl, inr, arith}
use Rattle.std.proofs.lemmas.Bool.{cases_eq, eq-eqb, false≢true}
use Rattle.std.proofs.lemmas.List.{get_or-map}
use Rattle.std.proofs.lemmas.Option.{slice_get-get_or}
use Rattle.irt_base.specs.Cycle.{budget_time}
use Rattle.irt_base.specs.declared.blocks.Bundle.{Bundle}
use Rattle.irt_base.specs.declared.plants.Clocks.TheVariants.{Ptcp}
use Rattle.irt_base.specs.declared.plants.Plant.{Plant}
use Rattle.irt_route.specs.Clocks.{ClockTable, IsClockTreeOf, hops_in}
use Rattle.plan_rules.specs.Places.{IsAccepted, place_of}
use Rattle.sync_world.specs.World.{HasBudgets}

by_master : (master : Bool) (budget window : ℕ) → (master ≡ false → budget ≤ window) → (if master then 0 else budget) ≤ window
by_master true budget window small = omega arith
by_master false budget window small = small refl

no_master : (device : ℕ) → (device == 0) ≡ false → 1 ≤ device
no_master device other =
    elim (cases_eq device 0) [
      | inl same ↦ absurd (false≢true (sym other ∙ eq-eqb device 0 same))
      | inr differ ↦ omega (arith, differ)
    ]

pub accepted_budgets : (plant : Plant) (bundles : List Bundle) (tree : ClockTable) (first : Bundle) → IsClockTreeOf plant tree → plant.clocks ≡ Ptcp →
    length bundles ≡ length plant.devices → slice_get bundles 0 ≡ Some first → IsAccepted plant bundles →
    HasBudgets plant tree first.sync.send (map (λ (b : Bundle). b.sync.timeout) bundles)
accepted_budgets plant bundles tree first own clocks count starts accepted = λ device below.
    let timeouts : List ℕ = map (λ (b : Bundle). b.sync.timeout) bundles in
    let b : Bundle = get_or bundles device first in
    let there : slice_get bundles device ≡ Some b = slice_get-get_or bundles device first (omega (arith, below, count)) in
    let waits : slice_index timeouts device ≡ b.sync.timeout = get_or-map (λ (x : Bundle). x.sync.timeout) bundles device first 0 (omega (arith, below, count)) in
    by_master (device == 0)
    (budget_time (hops_in tree device) plant.sync.stamp plant.sync.drift first.sync.send (slice_index timeouts device)) plant.window
    (λ other.
    subst (λ (n : ℕ). budget_time (hops_in tree device) plant.sync.stamp plant.sync.drift first.sync.send n ≤ plant.window) (sym waits)
    (accepted 15 (place_of device 0 0) first b (hops_in tree device) clocks (no_master device other) starts there (own.distance device below)))
