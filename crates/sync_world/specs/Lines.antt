-- Exchanges over the link from a device to its parent, and what a sync message meets there.
use Rattle.std.specs.Prelude.{ℕ, ◌+◌, ◌-◌, ◌*◌, ◌/◌, ◌%◌, ◌==◌, Bool, ◌&&◌, not, nat_lt, nat_le, ℤ, Result, List, [], map, length, find, unwrap_or, count_by}
use Rattle.std.specs.Int.{div_ceil}
use Rattle.std.specs.List.{range_with_len}
use Rattle.line_delay.specs.Honest.{Stamps, after_all}
use Rattle.line_delay.specs.Line.{half_round}
use Rattle.line_delay.specs.declared.line.LineFault.{LineFault}
use Rattle.seed_draws.specs.Draws.{draw_of, signed_within}
use Rattle.sync_world.specs.Domain.{delay_of}
use Rattle.sync_world.specs.declared.domain.Domain.{Domain}
use Rattle.sync_world.specs.declared.lines.LinePassages.{LinePassages}
use Rattle.sync_world.specs.declared.lines.Passage.{Passage}
use Rattle.sync_world.specs.declared.lines.TheConstants.{STAMPS, LOSSES, STAYS, EXCHANGE_TIME, STAY_TIME, FIRST_EXCHANGES}

-- stamp 1, 2, 3 or 4 of an exchange: its true time, and an error that is drawn from -stamp to stamp
abbrev pub stamped : Domain → ℕ → ℕ → ℕ → ℕ → ℕ
stamped domain device exchange number time =
    time + draw_of domain.seed (STAMPS + number) device exchange % (2 * domain.stamp + 1) - domain.stamp

-- when an exchange begins: the first one at 1000000
abbrev pub begun : ℕ → ℕ
begun exchange = EXCHANGE_TIME * (exchange + 1)

-- the stamps of an exchange
unfoldable pub exchanged : Domain → ℕ → ℕ → Stamps
exchanged domain device exchange = record {
  t1 = stamped domain device exchange 1 (begun exchange);
  t2 = stamped domain device exchange 2 (begun exchange + delay_of domain device);
  t3 = stamped domain device exchange 3 (begun exchange + delay_of domain device + STAY_TIME);
  t4 = stamped domain device exchange 4 (begun exchange + 2 * delay_of domain device + STAY_TIME);
}

-- the half round of stamps, or why they are refused
abbrev pub half_by : Stamps → Result ℕ LineFault
half_by s = half_round s.t1 s.t2 s.t3 s.t4

-- the half rounds that count after so many exchanges
unfoldable pub halves_after : Domain → ℕ → ℕ → List ℕ
halves_after domain device count = after_all [] (map (exchanged domain device) (range_with_len 0 count))

-- So many at most are less, and more than so many are at most as great: of 5, 7, 9 and 9 it is 7.
abbrev pub is_lower_median : List ℕ → ℕ → Bool
is_lower_median numbers n =
    nat_le (count_by (λ x. nat_lt x n) numbers) ((length numbers - 1) / 2)
    && nat_lt ((length numbers - 1) / 2) (count_by (λ x. nat_le x n) numbers)

-- what is known by half rounds: their lower median, 0 where there is none
unfoldable pub known_by : List ℕ → ℕ
known_by halves = unwrap_or (find (is_lower_median halves) halves) 0

-- what is known of the delay after so many exchanges
abbrev pub measured : Domain → ℕ → ℕ → ℕ
measured domain device count = known_by (halves_after domain device count)

-- What is known when a sync message is sent. One more exchange comes just before each.
abbrev pub measured_at : Domain → ℕ → ℕ → ℕ
measured_at domain device sync = measured domain device (FIRST_EXCHANGES + sync + 1)

-- the link to the device's parent loses a sync message, which counts from 0
abbrev pub is_lost : Domain → ℕ → ℕ → Bool
is_lost domain device sync = not (domain.loss == 0) && (draw_of domain.seed LOSSES device sync % domain.loss == 0)

-- by how much a device that relays it is wrong on its stay
abbrev pub stay_error : Domain → ℕ → ℕ → ℤ
stay_error domain device sync = signed_within (draw_of domain.seed STAYS device sync) (2 * domain.stamp)

-- what a sync message meets at a device
unfoldable pub passage_of : Domain → ℕ → ℕ → Passage
passage_of domain device sync = record {
  known = measured_at domain device sync;
  delay = delay_of domain device;
  stay = stay_error domain device sync;
  lost = is_lost domain device sync;
}

-- what the first so many meet there
abbrev pub line_passages : Domain → ℕ → ℕ → LinePassages
line_passages domain syncs device = record {
  passages = map (passage_of domain device) (range_with_len 0 syncs);
  known = measured domain device (FIRST_EXCHANGES + syncs);
}

-- how many sync messages are sent in so many cycles: every 4 cycles, 3 in 9 to 12
abbrev pub syncs_in : Domain → ℕ → ℕ
syncs_in domain cycles = div_ceil cycles domain.send

-- what all of them meet, by device
abbrev pub all_passages : Domain → ℕ → List LinePassages
all_passages domain cycles =
    map (line_passages domain (syncs_in domain cycles)) (range_with_len 0 (length domain.lines))
