-- Whole PTCP worlds.
use Rattle.std.proofs.Common.{◌≡◌, ℕ, ◌≤◌, ℤ, List, Option, get_or, Some, slice_get, refl, sym, ◌∙◌, ap, subst, All}
use Rattle.std.specs.List.{range_with_len}
use Rattle.std.proofs.lemmas.List.Elements.{All-map}
use Rattle.irt_base.specs.declared.blocks.Bundle.{Bundle}
use Rattle.irt_base.specs.declared.plants.Plant.{Plant}
use Rattle.irt_route.specs.Clocks.{ClockTable}
use Rattle.irt_world.specs.Forwardings.{HasRange, forwardings}
use Rattle.irt_world.specs.Rows.{IsRowOf}
use Rattle.irt_world.specs.Seeded.{seeded_delays}
use Rattle.irt_world.specs.declared.forwardings.Forwarding.{Forwarding}
use Rattle.irt_world.specs.declared.rows.Row.{Row}
use Rattle.sync_world.specs.Domain.{IsDomain, domain_of}
use Rattle.sync_world.specs.World.{HasBudgets, IsInStepAsHeard, KeepsBudgets, all_errors, row_by, rows_by, ptcp_row, ptcp_rows}
use Rattle.sync_world.specs.declared.domain.Domain.{Domain}
use Rattle.sync_world.proofs.Made.{made_same}
use Rattle.sync_world.proofs.Reports.{line_count}
use Rattle.sync_world.proofs.Rows.{AreClocksBounded, in_step, keeps_budgets, row_fits, row_is}
use Rattle.sync_world.proofs.Tables.{made_is}

pub seed_is : (seed : ℕ) (plant : Plant) (tree : ClockTable) (send : ℕ) → seed ≡ (domain_of seed plant tree send).seed
unfolding domain_of
seed_is seed plant tree send = refl

send_is : (seed : ℕ) (plant : Plant) (tree : ClockTable) (send : ℕ) → (domain_of seed plant tree send).send ≡ send
unfolding domain_of
send_is seed plant tree send = refl

-- rows by the errors of a domain are those of its world
pub rows_are : (seed : ℕ) (plant : Plant) (bundles : List Bundle) (tree : ClockTable) (send : ℕ) (timeouts : List ℕ) (cycles : ℕ) (fs : List Forwarding)
    (errors : List (List (Option ℤ))) (rows : List Row) → rows ≡ rows_by plant.window seed fs errors cycles → fs ≡ forwardings plant bundles →
    errors ≡ all_errors (domain_of seed plant tree send) timeouts cycles → rows ≡ ptcp_rows seed plant bundles tree send timeouts cycles
rows_are seed plant bundles tree send timeouts cycles fs errors rows made held heard =
    let domain : Domain = domain_of seed plant tree send in
    made
    ∙ ap (λ (l : List Forwarding). rows_by plant.window seed l errors cycles) held
    ∙ made_same (λ cycle. row_by plant.window (seeded_delays seed cycle (forwardings plant bundles)) errors cycle)
    (ptcp_row domain plant (forwardings plant bundles) timeouts) cycles
    (λ cycle below.
    row_is domain plant timeouts (forwardings plant bundles) cycles cycle seed errors
    (row_by plant.window (seeded_delays seed cycle (forwardings plant bundles)) errors cycle) refl heard below (seed_is seed plant tree send)
    (line_count seed plant tree send domain refl))

pub rows_keep : AreClocksBounded → (seed : ℕ) (plant : Plant) (bundles : List Bundle) (tree : ClockTable) (send : ℕ) (timeouts : List ℕ) (cycles : ℕ) (rows : List Row) →
    IsDomain (domain_of seed plant tree send) → rows ≡ ptcp_rows seed plant bundles tree send timeouts cycles → (cycle : ℕ) (row : Row) →
    slice_get rows cycle ≡ Some row → KeepsBudgets plant tree (domain_of seed plant tree send) timeouts cycle row
rows_keep bounded seed plant bundles tree send timeouts cycles rows valid made cycle row is =
    let (below, same) = made_is (ptcp_row (domain_of seed plant tree send) plant (forwardings plant bundles) timeouts) cycles cycle row
    (sym (ap (λ (l : List Row). slice_get l cycle) made) ∙ is) in
    keeps_budgets bounded seed plant tree send timeouts (forwardings plant bundles) cycle row valid same

pub rows_fit : AreClocksBounded → (seed : ℕ) (plant : Plant) (bundles : List Bundle) (tree : ClockTable) (send : ℕ) (timeouts : List ℕ) (cycles : ℕ) (rows : List Row) →
    IsDomain (domain_of seed plant tree send) → rows ≡ ptcp_rows seed plant bundles tree send timeouts cycles → plant.window ≤ 10000 →
    All HasRange (forwardings plant bundles) → HasBudgets plant tree send timeouts → All (IsRowOf plant bundles) rows
rows_fit bounded seed plant bundles tree send timeouts cycles rows valid made window ranges small =
    let domain : Domain = domain_of seed plant tree send in
    subst (λ (l : List Row). All (IsRowOf plant bundles) l) (sym made)
    (All-map (IsRowOf plant bundles) (ptcp_row domain plant (forwardings plant bundles) timeouts) (range_with_len 0 cycles)
    (λ k cycle below.
    row_fits plant bundles tree domain send timeouts (get_or (range_with_len 0 cycles) k cycle) window (send_is seed plant tree send) small ranges
    (keeps_budgets bounded seed plant tree send timeouts (forwardings plant bundles) (get_or (range_with_len 0 cycles) k cycle)
    (ptcp_row domain plant (forwardings plant bundles) timeouts (get_or (range_with_len 0 cycles) k cycle)) valid refl)))

pub rows_in_step : AreClocksBounded → (seed : ℕ) (plant : Plant) (bundles : List Bundle) (tree : ClockTable) (send : ℕ) (timeouts : List ℕ) (cycles : ℕ) (rows : List Row) →
    IsDomain (domain_of seed plant tree send) → rows ≡ ptcp_rows seed plant bundles tree send timeouts cycles → HasBudgets plant tree send timeouts →
    (cycle : ℕ) (row : Row) → slice_get rows cycle ≡ Some row → IsInStepAsHeard plant bundles (domain_of seed plant tree send) timeouts cycle row
rows_in_step bounded seed plant bundles tree send timeouts cycles rows valid made small cycle row is =
    in_step seed plant bundles tree send timeouts cycle row (domain_of seed plant tree send) (send_is seed plant tree send) small
    (rows_keep bounded seed plant bundles tree send timeouts cycles rows valid made cycle row is)
