-- What V1 says of sync messages.
use Rattle.std.proofs.Common.{◌≡◌, ◌<◌, ◌≤◌, ℕ, zero, suc, List, [], ◌∷◌, length, get_or, Some, slice_get, Result, Ok, Err, IfOk, refl, sym, ◌∙◌, ap, subst, arith}
use Rattle.std.specs.List.{All}
use Rattle.std.proofs.lemmas.List.Elements.{All-map}
use Rattle.std.proofs.lemmas.Option.{slice_get_within, slice_get-get_or}
use Rattle.irt_base.specs.Valid.{IsWithin}
use Rattle.irt_base.specs.declared.blocks.Bundle.{Bundle}
use Rattle.irt_base.specs.declared.limits.TheConstants.{MAX_SEND, MAX_TIMEOUT}
use Rattle.irt_base.specs.declared.memory.NoMemory.{NoMemory}
use Rattle.irt_base.specs.declared.plants.Plant.{Plant}
use Rattle.irt_route.specs.Clocks.{ClockTable, IsClockTreeOf}
use Rattle.irt_world.specs.declared.rows.World.{World}
use Rattle.plan_rules.specs.Headers.{IsHeader}
use Rattle.plan_rules.specs.Places.{IsAccepted, place_of}
use Rattle.plan_rules.specs.Plan.{IsPlan}
use Rattle.plan_run.specs.World.{IsPtcpWorld, timeouts_of}
use Rattle.sync_world.specs.World.{HasBudgets, ptcp_rows}

some_at : {X : Type 0} (xs : List X) (m : ℕ) → m < length xs → (x : X) × (slice_get xs m ≡ Some x)
some_at [] m below = absurd (omega (arith, below))
some_at (x ∷ xs) zero below = (x, refl)
some_at (x ∷ xs) (suc m) below = some_at xs m (omega (arith, below))

cycles_of : (plant : Plant) (bundles : List Bundle) (device : ℕ) (b : Bundle) → IsPlan plant bundles → IsAccepted plant bundles → slice_get bundles device ≡ Some b →
    IsWithin 1 MAX_SEND b.sync.send × (b.sync.timeout ≤ MAX_TIMEOUT)
cycles_of plant bundles device b plan accepted is =
    let there : device < length bundles = slice_get_within bundles device b is in
    let own = some_at plant.devices device (omega (arith, plan.count, there)) in
    let first = some_at bundles 0 (omega (arith, there)) in
    let header : IsHeader plant own.0 first.0 b = accepted 1 (place_of device 0 0) own.0 first.0 b own.1 first.1 is in
    (header.send, header.timeout.1)

pub send_fits : (plant : Plant) (bundles : List Bundle) (first : Bundle) → IsPlan plant bundles → IsAccepted plant bundles → slice_get bundles 0 ≡ Some first →
    IsWithin 1 MAX_SEND first.sync.send
send_fits plant bundles first plan accepted is = (cycles_of plant bundles 0 first plan accepted is).0

pub timeouts_fit : (plant : Plant) (bundles : List Bundle) (timeouts : List ℕ) → IsPlan plant bundles → IsAccepted plant bundles → timeouts ≡ timeouts_of bundles →
    All (λ (t : ℕ). t ≤ MAX_TIMEOUT) timeouts
timeouts_fit plant bundles timeouts plan accepted is =
    subst (All (λ (t : ℕ). t ≤ MAX_TIMEOUT)) (sym is)
    (All-map (λ (t : ℕ). t ≤ MAX_TIMEOUT) (λ (b : Bundle). b.sync.timeout) bundles
    (λ k d within. (cycles_of plant bundles k (get_or bundles k d) plan accepted (slice_get-get_or bundles k d within)).1))

-- the rows that PTCP made are those of the seed's world
pub heard : (plant : Plant) (bundles : List Bundle) (tree : ClockTable) (first : Bundle) (timeouts : List ℕ) (seed cycles : ℕ) (result : Result World NoMemory) →
    IfOk result (λ (w : World). w.rows ≡ ptcp_rows seed plant bundles tree first.sync.send timeouts cycles) → IsClockTreeOf plant tree → slice_get bundles 0 ≡ Some first →
    timeouts ≡ timeouts_of bundles → IfOk result (IsPtcpWorld plant bundles seed cycles)
heard plant bundles tree first timeouts seed cycles (Err e) made own is same = tt
heard plant bundles tree first timeouts seed cycles (Ok world) made own is same = record {
  tree = tree;
  is_tree = own;
  first = first;
  is_first = is;
  rows = made ∙ ap (λ (ts : List ℕ). ptcp_rows seed plant bundles tree first.sync.send ts cycles) same;
}

pub budgets_fit : (plant : Plant) (tree : ClockTable) (send : ℕ) (bundles : List Bundle) (timeouts : List ℕ) → timeouts ≡ timeouts_of bundles →
    HasBudgets plant tree send (timeouts_of bundles) → HasBudgets plant tree send timeouts
budgets_fit plant tree send bundles timeouts same has = subst (HasBudgets plant tree send) (sym same) has

-- the same plan
pub accepted_too : (plant other : Plant) (bundles others : List Bundle) → other ≡ plant → others ≡ bundles → IsAccepted plant bundles → IsAccepted other others
accepted_too plant other bundles others is same accepted =
    subst (λ (p : Plant). IsAccepted p others) (sym is) (subst (IsAccepted plant) (sym same) accepted)
