-- How large a run is: three sizes of one cycle, and their limits over all cycles.
use Rattle.std.specs.Prelude.{ℕ, ◌+◌, ◌*◌, nat_lt, Bool, ◌||◌, if◌then◌else◌, List, [], length, count_ones, sum_by, slice_index_or}
use Rattle.irt_base.specs.declared.blocks.Bundle.{Bundle}
use Rattle.irt_base.specs.declared.blocks.Entry.{Entry}
use Rattle.irt_base.specs.declared.limits.TheConstants.{MAX_ROWS, MAX_RUN_WORDS, MAX_WORLD_NUMBERS}
use Rattle.irt_base.specs.declared.numbers.PortNo.{PortNo}
use Rattle.irt_base.specs.declared.plants.App.{App}
use Rattle.irt_base.specs.declared.plants.Plant.{Plant}
use Rattle.irt_base.specs.declared.plants.Traffic.{Traffic}
use Rattle.irt_switch.specs.Ports.{is_kept}
use Rattle.irt_switch.specs.Release.{is_provided}
use Rattle.irt_world.specs.Forwardings.{forwardings}
use Rattle.iso_rules.specs.Station.{data_words, input_count, output_count}
use Rattle.parcel_rules.specs.Room.{most_rows}
use Rattle.plan_rules.specs.Plan.{setup_of}

-- The rows of the journal that an entry may get in a cycle: one for each set bit of its `tx`, and one more. A provider
-- that sends by one port has 2.
abbrev pub entry_rows : Entry → ℕ
entry_rows e = 1 + count_ones e.tx

abbrev pub bundle_rows : Bundle → ℕ
bundle_rows b = sum_by entry_rows b.frames.entries

-- the rows of all entries and of all parcels that are made in a cycle: each parcel has one for each link of its walk, and
-- one more
abbrev pub rows_a_cycle : Plant → List Bundle → List (List PortNo) → ℕ
rows_a_cycle plant bundles walks = sum_by bundle_rows bundles + most_rows plant walks

-- the rows of the parcels that an entry makes, by its number
abbrev pub entry_parcels : List (List PortNo) → ℕ × Traffic → ℕ
entry_parcels walks entry = entry.1.count * (length (slice_index_or walks entry.0 []) + 1)

-- the words of an app that a record gets in a cycle: the output as it is published and taken, and the input likewise
abbrev pub app_words : Plant → List Bundle → App → ℕ
app_words plant bundles app =
    2 * (input_count (setup_of plant bundles) app.device.0 + output_count (setup_of plant bundles) app.device.0)

abbrev pub words_a_cycle : Plant → List Bundle → ℕ
words_a_cycle plant bundles = sum_by (app_words plant bundles) plant.apps

-- the words of an entry where the device consumes its frame, and once more where it provides it
abbrev pub both_words : Entry → ℕ
both_words e = (if is_kept e.tx then data_words e else 0) + (if is_provided e then data_words e else 0)

-- the numbers of a world's row: an error for each device, and a bridge delay for each forwarding
abbrev pub numbers_a_cycle : Plant → List Bundle → ℕ
numbers_a_cycle plant bundles = length plant.devices + length (forwardings plant bundles)

-- A run of so many cycles is too long: one of its sizes exceeds its limit.
--
-- Two devices with an app each are linked, and send each other two frames of 1440 bytes, which are 180 words. A cycle has
-- 16 rows, 2 * (360 + 360) = 1440 words for each app, 2880 in all, and 2 numbers. Over 10000 cycles these are 28800000
-- words, more than 16000000: the run is too long. Over 5555 cycles they are 15998400 words, and it is not.
abbrev pub is_too_long : Plant → List Bundle → List (List PortNo) → ℕ → Bool
is_too_long plant bundles walks cycles =
    nat_lt MAX_ROWS (cycles * rows_a_cycle plant bundles walks)
    || nat_lt MAX_RUN_WORDS (cycles * words_a_cycle plant bundles)
    || nat_lt MAX_WORLD_NUMBERS (cycles * numbers_a_cycle plant bundles)
