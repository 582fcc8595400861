-- The clocks of a domain, cycle by cycle. Errors are ns after the truth.
use Rattle.std.specs.Prelude.{ℕ, zero, suc, ◌+◌, ◌-◌, ◌*◌, ◌/◌, ◌%◌, ◌==◌, ℤ, pos, ◌+ℤ◌, ◌-ℤ◌, Bool, true, ◌&&◌, not, nat_lt, if◌then◌else◌, List, [], ◌∷◌, drop, map, Option, Some, None, unwrap_or}
use Rattle.std.specs.List.{list_any, range_with_len}
use Rattle.irt_base.specs.declared.numbers.DevId.{DevId}
use Rattle.seed_draws.specs.Draws.{draw_of, signed_within}
use Rattle.sync_world.specs.Domain.{walk_of}
use Rattle.sync_world.specs.Lines.{passage_of}
use Rattle.sync_world.specs.declared.clocks.Clock.{Clock}
use Rattle.sync_world.specs.declared.clocks.TheConstants.{ARRIVALS, DEPARTURES, DRIFTS}
use Rattle.sync_world.specs.declared.domain.Domain.{Domain}
use Rattle.sync_world.specs.declared.lines.Passage.{Passage}

-- the sum of numbers over devices
abbrev pub total : (DevId → ℤ) → List DevId → ℤ
total number [] = pos 0
total number (v ∷ more) = number v +ℤ total number more

-- how much too long a link's delay is taken
abbrev pub line_error : Passage → ℤ
line_error p = pos p.known -ℤ pos p.delay

-- the message is lost on a link of the walk, by what it meets at each device
abbrev pub is_lost_on : (DevId → Passage) → List DevId → Bool
is_lost_on at walk = list_any (λ v. (at v).lost) walk

-- how wrong its correction is at the end of the walk, whose devices but the last relayed it
abbrev pub travel_error : (DevId → Passage) → List DevId → ℤ
travel_error at walk = total (λ v. line_error (at v)) walk +ℤ total (λ v. (at v).stay) (drop 1 walk)

-- the errors of the two stamps, of the arrival at a device and of the departure from the master
abbrev pub ends_error : Domain → ℕ → ℕ → ℤ
ends_error domain device sync =
    signed_within (draw_of domain.seed ARRIVALS device sync) domain.stamp
    +ℤ signed_within (draw_of domain.seed DEPARTURES 0 sync) domain.stamp

-- the error to which a sync message sets a device's clock, where it reaches the device
abbrev pub base_by : (DevId → Passage) → List DevId → ℤ → Option ℤ
base_by at walk ends = if is_lost_on at walk then None else Some (travel_error at walk +ℤ ends)

unfoldable pub base_of : Domain → ℕ → ℕ → Option ℤ
base_of domain device sync =
    base_by (λ v. passage_of domain v.0 sync) (walk_of domain device) (ends_error domain device sync)

-- the same, of the sync message of a cycle, if there is one
abbrev pub base_in : Domain → ℕ → ℕ → Option ℤ
base_in domain device cycle = if cycle % domain.send == 0 then base_of domain device (cycle / domain.send) else None

-- the clock after the sync message of a cycle
abbrev pub set_by : Clock → ℕ → Option ℤ → Clock
set_by clock cycle None = clock
set_by clock cycle (Some base) = record { error = base; heard = Some cycle }

abbrev pub drifted : Domain → ℕ → ℕ → Clock → Clock
drifted domain device cycle clock =
    record {
      error = clock.error +ℤ signed_within (draw_of domain.seed DRIFTS device cycle) domain.drift;
      heard = clock.heard;
    }

-- a cycle later
abbrev pub later : Domain → ℕ → ℕ → Clock → Clock
later domain device cycle clock = drifted domain device cycle (set_by clock cycle (base_in domain device cycle))

abbrev pub first_clock : Clock
first_clock = record { error = pos 0; heard = None }

-- a device's clock at the beginning of a cycle
unfoldable pub clock_at : Domain → ℕ → ℕ → Clock
clock_at domain device zero = first_clock
clock_at domain device (suc cycle) = later domain device cycle (clock_at domain device cycle)

-- how long ago a sync message last set the clock, in cycles
abbrev pub age_of : Clock → ℕ → ℕ
age_of clock cycle = cycle - unwrap_or clock.heard 0

-- no sync message reached the clock before a cycle, or the last one more than so many cycles before
abbrev pub is_silent : Option ℕ → ℕ → ℕ → Bool
is_silent None cycle patience = true
is_silent (Some heard) cycle patience = nat_lt (heard + patience) cycle

-- the device is muted in a cycle, which the master is never
abbrev pub is_mute : Domain → ℕ → ℕ → ℕ → Bool
is_mute domain timeout device cycle =
    not (device == 0) && is_silent (clock_at domain device cycle).heard cycle (domain.send * timeout)

-- its error, before it is muted
abbrev pub clock_error : Domain → ℕ → ℕ → ℤ
clock_error domain device cycle = if device == 0 then pos 0 else (clock_at domain device cycle).error

-- the error of a device that isn't muted
unfoldable pub heard_error : Domain → ℕ → ℕ → ℕ → Option ℤ
heard_error domain timeout device cycle =
    if is_mute domain timeout device cycle then None else Some (clock_error domain device cycle)

-- the errors of a device in the first so many cycles
abbrev pub heard_errors : Domain → ℕ → ℕ → ℕ → List (Option ℤ)
heard_errors domain timeout device cycles = map (heard_error domain timeout device) (range_with_len 0 cycles)
