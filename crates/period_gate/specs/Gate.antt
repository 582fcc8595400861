-- A gate, and which parcel it lets out next. Times are local ns of a cycle.
use Rattle.std.specs.Prelude.{ℕ, ◌+◌, max, nat_le, if◌then◌else◌, List, [], ◌∷◌, ◌++◌, drop, slice_get, Option, Some, None, option_and_then}
use Rattle.irt_base.specs.Cycle.{parcel_time}
use Rattle.irt_base.specs.declared.blocks.Period.{Period}
use Rattle.irt_base.specs.declared.plants.Class.{Class}
use Rattle.irt_base.specs.declared.plants.Class.TheVariants.{Orange, Green}
use Rattle.period_gate.specs.declared.parcels.Parcel.{Parcel}
use Rattle.period_gate.specs.declared.parcels.Sent.{Sent}

-- the parcels that wait, each class with the first one first, the Tx period of the cycle, and the
-- limit by which a parcel ends
pub record Waiting : Type 0 where
  pub orange : List Parcel
  pub green : List Parcel
  pub period : Period
  pub limit : ℕ

-- nothing waits, and no parcel would end by the limit
abbrev pub nothing_waiting : Waiting
nothing_waiting = record {
  orange = [];
  green = [];
  period = record { red = 0; orange = 0; green = 0 };
  limit = 0;
}

abbrev pub queue_of : Class → Waiting → List Parcel
queue_of Orange waiting = waiting.orange
queue_of Green waiting = waiting.green

-- when the class's period begins
abbrev pub begin_of : Class → Period → ℕ
begin_of Orange period = period.orange
begin_of Green period = period.green

-- the parcel is put last in its class
abbrev pub with_last : Class → Parcel → Waiting → Waiting
with_last Orange parcel waiting = record waiting { orange = waiting.orange ++ parcel ∷ [] }
with_last Green parcel waiting = record waiting { green = waiting.green ++ parcel ∷ [] }

-- the first parcel of the class is taken out
abbrev pub without_head : Class → Waiting → Waiting
without_head Orange waiting = record waiting { orange = drop 1 waiting.orange }
without_head Green waiting = record waiting { green = drop 1 waiting.green }

-- a parcel that starts then, where it ends by the limit
abbrev pub sent_by : Class → ℕ → ℕ → Parcel → Option Sent
sent_by class start limit parcel =
    if nat_le (start + parcel_time parcel.length) limit then
    Some (record { «class» = class; parcel = parcel; start = start; end = start + parcel_time parcel.length }) else None

-- the class's first parcel from a time on, where there is one and it ends by the limit
abbrev pub head_sent : Class → Waiting → ℕ → Option Sent
head_sent class waiting local =
    option_and_then (sent_by class (max local (begin_of class waiting.period)) waiting.limit) (slice_get (queue_of class waiting) 0)

abbrev pub first_of_two : Option Sent → Option Sent → Option Sent
first_of_two (Some sent) other = Some sent
first_of_two None other = other

-- the next parcel from a time on: orange before green
abbrev pub next_sent : Waiting → ℕ → Option Sent
next_sent waiting local = first_of_two (head_sent Orange waiting local) (head_sent Green waiting local)

-- what waits once that parcel is taken out
abbrev pub left_after : Option Sent → Waiting → Waiting
left_after (Some sent) waiting = without_head sent.«class» waiting
left_after None waiting = waiting
