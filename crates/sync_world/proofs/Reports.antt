-- The line of a report, field by field.
use Rattle.std.proofs.Common.{◌≡◌, ℕ, ◌+◌, ◌≤◌, List, length, Option, ap, ◌∙◌, arith}
use Rattle.std.specs.Prelude.{ℤ}
use Rattle.std.proofs.lemmas.List.FromFn.{length-map-range_with_len}
use Rattle.irt_base.specs.declared.numbers.DevId.{DevId}
use Rattle.irt_base.specs.declared.plants.Plant.{Plant}
use Rattle.irt_route.specs.Clocks.{ClockTable, clock_budget, hops_in}
use Rattle.sync_world.specs.Clocks.{heard_error, heard_errors}
use Rattle.sync_world.specs.Domain.{clock_line, delay_of, domain_of}
use Rattle.sync_world.specs.Lines.{measured, syncs_in}
use Rattle.sync_world.specs.Report.{muted_in, report_line, worst_in}
use Rattle.sync_world.specs.declared.domain.Domain.{Domain}
use Rattle.sync_world.specs.declared.lines.TheConstants.{FIRST_EXCHANGES}

pub line_is : (plant : Plant) (tree : ClockTable) (domain : Domain) (cycles : ℕ) (device : DevId) (errors : List (Option ℤ))
    (hops delay known budget muted worst : ℕ) → errors ≡ heard_errors domain plant.sync.timeout device.0 cycles →
    hops ≡ hops_in tree device.0 → delay ≡ delay_of domain device.0 →
    known ≡ measured domain device.0 (FIRST_EXCHANGES + syncs_in domain cycles) →
    budget ≡ clock_budget tree plant.sync device.0 plant.sync.send plant.sync.timeout → muted ≡ muted_in errors → worst ≡ worst_in errors →
    record { device = device; hops = hops; delay = delay; measured = known; budget = budget; muted = muted; worst = worst }
    ≡ report_line plant tree domain cycles device.0
unfolding report_line
line_is plant tree domain cycles device errors hops delay known budget muted worst made is_hops is_delay is_known is_budget is_muted is_worst =
    let muted_is : muted ≡ muted_in (heard_errors domain plant.sync.timeout device.0 cycles) = is_muted ∙ ap muted_in made in
    let worst_is : worst ≡ worst_in (heard_errors domain plant.sync.timeout device.0 cycles) = is_worst ∙ ap worst_in made in
    λ i. record {
      device = device;
      hops = is_hops i;
      delay = is_delay i;
      measured = is_known i;
      budget = is_budget i;
      muted = muted_is i;
      worst = worst_is i;
    }

pub few_errors : (domain : Domain) (timeout device cycles : ℕ) (errors : List (Option ℤ)) → errors ≡ heard_errors domain timeout device cycles →
    cycles ≤ 10000 → length errors ≤ 10000
few_errors domain timeout device cycles errors made few =
    let long = length-map-range_with_len (heard_error domain timeout device) 0 cycles in
    let same = ap (λ (l : List (Option ℤ)). length l) made in
    omega (arith, few, long, same)

pub line_count : (seed : ℕ) (plant : Plant) (tree : ClockTable) (send : ℕ) (domain : Domain) → domain ≡ domain_of seed plant tree send →
    length domain.lines ≡ length plant.devices
unfolding domain_of
line_count seed plant tree send domain is =
    ap (λ (d : Domain). length d.lines) is ∙ length-map-range_with_len (clock_line plant tree) 0 (length plant.devices)
