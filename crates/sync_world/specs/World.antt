-- The worlds that PTCP makes.
use Rattle.std.specs.Prelude.{◌≡◌, ℕ, ◌+◌, ◌≤◌, ◌<◌, ◌↔◌, ℤ, pos, true, false, List, [], map, length, Option, Some, None, slice_get, slice_index, unwrap_or}
use Rattle.std.specs.List.{range_with_len}
use Rattle.irt_base.specs.declared.blocks.Bundle.{Bundle}
use Rattle.irt_base.specs.declared.plants.Plant.{Plant}
use Rattle.irt_route.specs.Clocks.{ClockTable, clock_budget}
use Rattle.irt_world.specs.Forwardings.{forwardings}
use Rattle.irt_world.specs.Rows.{error_in, world_row}
use Rattle.irt_world.specs.Seeded.{seeded_delays}
use Rattle.irt_world.specs.declared.forwardings.Forwarding.{Forwarding}
use Rattle.irt_world.specs.declared.rows.Row.{Row}
use Rattle.plan_rules.specs.World.{IsInStep, IsWithinWindow}
use Rattle.sync_world.specs.Clocks.{heard_error, heard_errors, is_mute}
use Rattle.sync_world.specs.Domain.{domain_of}
use Rattle.sync_world.specs.declared.domain.Domain.{Domain}

-- the error of a device in a row: a muted one has one more than the window
abbrev pub row_error : ℕ → Option ℤ → ℤ
row_error window None = pos (window + 1)
row_error window (Some error) = error

-- the errors of each device in so many cycles, with a timeout by device
abbrev pub all_errors : Domain → List ℕ → ℕ → List (List (Option ℤ))
all_errors domain timeouts cycles =
    map (λ device. heard_errors domain (slice_index timeouts device) device cycles)
    (range_with_len 0 (length domain.lines))

-- one of them, by the cycle
abbrev pub error_at : ℕ → List (Option ℤ) → Option ℤ
error_at cycle errors = unwrap_or (slice_get errors cycle) None

-- a row by the errors of each device in all cycles, in which no link is cut
abbrev pub row_by : ℕ → List ℕ → List (List (Option ℤ)) → ℕ → Row
row_by window bridges errors cycle =
    record { errors = map (λ own. row_error window (error_at cycle own)) errors; bridges = bridges; cuts = [] }

-- so many rows by those errors, with the bridge delays of the seeded world
abbrev pub rows_by : ℕ → ℕ → List Forwarding → List (List (Option ℤ)) → ℕ → List Row
rows_by window seed fs errors cycles =
    map (λ cycle. row_by window (seeded_delays seed cycle fs) errors cycle) (range_with_len 0 cycles)

-- the errors of all devices in a cycle
abbrev pub row_errors : Domain → ℕ → List ℕ → ℕ → ℕ → List ℤ
row_errors domain window timeouts devices cycle =
    map (λ device. row_error window (heard_error domain (slice_index timeouts device) device cycle))
    (range_with_len 0 devices)

-- a row, whose bridge delays are those of the seeded world, and in which no link is cut
abbrev pub ptcp_row : Domain → Plant → List Forwarding → List ℕ → ℕ → Row
ptcp_row domain plant fs timeouts cycle = record {
  errors = row_errors domain plant.window timeouts (length plant.devices) cycle;
  bridges = seeded_delays domain.seed cycle fs;
  cuts = [];
}

-- so many rows, with so many cycles between two sync messages, and a timeout by device
abbrev pub ptcp_rows : ℕ → Plant → List Bundle → ClockTable → ℕ → List ℕ → ℕ → List Row
ptcp_rows seed plant bundles tree send timeouts cycles =
    map (ptcp_row (domain_of seed plant tree send) plant (forwardings plant bundles) timeouts) (range_with_len 0 cycles)

-- the error of a device that isn't muted is at most its budget, either way; that of a muted one is one more than the
-- window
pub record KeepsBudgets (plant : Plant) (tree : ClockTable) (domain : Domain) (timeouts : List ℕ) (cycle : ℕ)
    (row : Row) : Type 0 where
  pub near : (device : ℕ) → device < length plant.devices
      → is_mute domain (slice_index timeouts device) device cycle ≡ false
      → IsWithinWindow (error_in row device)
      (pos (clock_budget tree plant.sync device domain.send (slice_index timeouts device)))
  pub muted : (device : ℕ) → device < length plant.devices
      → is_mute domain (slice_index timeouts device) device cycle ≡ true
      → error_in row device ≡ pos (plant.window + 1)

-- each budget is at most the window
abbrev pub HasBudgets : Plant → ClockTable → ℕ → List ℕ → Type 0
HasBudgets plant tree send timeouts =
    (device : ℕ) → device < length plant.devices
    → clock_budget tree plant.sync device send (slice_index timeouts device) ≤ plant.window

-- a device is in step exactly where it isn't muted
abbrev pub IsInStepAsHeard : Plant → List Bundle → Domain → List ℕ → ℕ → Row → Type 0
IsInStepAsHeard plant bundles domain timeouts cycle row =
    (device : ℕ) → device < length plant.devices
    → (IsInStep plant (world_row plant bundles row) device
    ↔ (is_mute domain (slice_index timeouts device) device cycle ≡ false))
