-- The report of a domain.
use Rattle.std.specs.Prelude.{ℕ, suc, ◌+◌, ◌-◌, max, ℤ, List, [], ◌∷◌, ◌++◌, map, length, decimal, Option, Some, None, option_map, slice_get, unwrap_or}
use Rattle.std.specs.Int.RustNames.{unsigned_abs}
use Rattle.std.specs.List.{range_with_len, flat_map}
use Rattle.irt_base.specs.declared.plants.Device.{Device}
use Rattle.irt_base.specs.declared.plants.Plant.{Plant}
use Rattle.irt_route.specs.Clocks.{ClockTable, clock_budget, hops_in}
use Rattle.sync_world.specs.Clocks.{heard_errors}
use Rattle.sync_world.specs.Domain.{delay_of, domain_of}
use Rattle.sync_world.specs.Lines.{measured, syncs_in}
use Rattle.sync_world.specs.declared.domain.Domain.{Domain}
use Rattle.sync_world.specs.declared.lines.LinePassages.{LinePassages}
use Rattle.sync_world.specs.declared.lines.TheConstants.{FIRST_EXCHANGES}
use Rattle.sync_world.specs.declared.report.ReportLine.{ReportLine}

-- in how many cycles it was muted
abbrev pub muted_in : List (Option ℤ) → ℕ
muted_in [] = 0
muted_in (None ∷ more) = suc (muted_in more)
muted_in (Some error ∷ more) = muted_in more

-- how great an error is, either way, 0 where it was muted
abbrev pub size_of : Option ℤ → ℕ
size_of None = 0
size_of (Some error) = unsigned_abs error

-- the greatest error, either way, of those that it had when it wasn't muted
abbrev pub worst_in : List (Option ℤ) → ℕ
worst_in [] = 0
worst_in (error ∷ more) = max (size_of error) (worst_in more)

-- what is known of a delay at the end, by a table
abbrev pub known_in : List LinePassages → ℕ → ℕ
known_in table device = unwrap_or (option_map (λ (l : LinePassages). l.known) (slice_get table device)) 0

-- what is said of a device
unfoldable pub report_line : Plant → ClockTable → Domain → ℕ → ℕ → ReportLine
report_line plant tree domain cycles device = record {
  device = record { 0 = device };
  hops = hops_in tree device;
  delay = delay_of domain device;
  measured = measured domain device (FIRST_EXCHANGES + syncs_in domain cycles);
  budget = clock_budget tree plant.sync device plant.sync.send plant.sync.timeout;
  muted = muted_in (heard_errors domain plant.sync.timeout device cycles);
  worst = worst_in (heard_errors domain plant.sync.timeout device cycles);
}

-- the lines of the devices from 1
abbrev pub report_lines : ℕ → Plant → ClockTable → ℕ → List ReportLine
report_lines seed plant tree cycles =
    map (report_line plant tree (domain_of seed plant tree plant.sync.send) cycles)
    (range_with_len 1 (length plant.devices - 1))

-- the name of a device
abbrev pub name_of : Plant → ℕ → List ℕ
name_of plant device = unwrap_or (option_map (λ (d : Device). d.name) (slice_get plant.devices device)) []

-- a space and a number
abbrev pub spaced : ℕ → List ℕ
spaced n = 32 ∷ decimal n

-- the numbers of a line, ended by a line feed: ` 1 500 496 169 1 25`
abbrev pub numbers_text : ReportLine → List ℕ
numbers_text l =
    spaced l.hops ++ spaced l.delay ++ spaced l.measured ++ spaced l.budget ++ spaced l.muted ++ spaced l.worst
    ++ 10 ∷ []

abbrev pub line_text : Plant → ReportLine → List ℕ
line_text plant l = name_of plant l.device.0 ++ numbers_text l

-- the text of a report
abbrev pub report_text : Plant → List ReportLine → List ℕ
report_text plant lines = flat_map (line_text plant) lines
