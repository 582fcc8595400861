-- Which parcels a port sends in a cycle: four conditions on the whole list.
use Rattle.std.specs.Prelude.{◌≡◌, ℕ, zero, suc, ◌+◌, ◌<◌, ◌≤◌, max, Bool, true, false, List, [], ◌∷◌, ◌++◌, length, map, filter, slice_get, Option, Some, None, All, AllPairs}
use Rattle.irt_base.specs.Cycle.{parcel_time}
use Rattle.irt_base.specs.declared.blocks.Period.{Period}
use Rattle.irt_base.specs.declared.plants.Class.{Class}
use Rattle.irt_base.specs.declared.plants.Class.TheVariants.{Orange, Green}
use Rattle.period_gate.specs.declared.parcels.Parcel.{Parcel}
use Rattle.period_gate.specs.declared.parcels.Sent.{Sent}
use Rattle.period_gate.specs.Gate.{Waiting, queue_of, begin_of, without_head, next_sent, left_after}

-- what waits once these were sent, in this order
abbrev pub left_of : Waiting → List Sent → Waiting
left_of waiting [] = waiting
left_of waiting (one ∷ more) = left_of (without_head one.«class» waiting) more

-- when the last of these ended, or a time where there is none
abbrev pub end_from : ℕ → List Sent → ℕ
end_from time [] = time
end_from time (one ∷ more) = end_from one.end more

-- the class's head would end by the limit, were it sent next after a time
abbrev pub WouldEnd : Class → Waiting → ℕ → Type 0
WouldEnd class waiting time =
    (head : Parcel) × (slice_get (queue_of class waiting) 0 ≡ Some head) × (max time (begin_of class waiting.period) + parcel_time head.length ≤ waiting.limit)

-- green gives way to an orange head that would end by the limit
abbrev pub GivesWay : Class → Waiting → ℕ → Type 0
GivesWay Orange waiting time = Unit {0}
GivesWay Green waiting time = ¬ WouldEnd Orange waiting time

-- The parcel may be sent next, where the one before ended at a time: it is the head of its class, starts
-- at the later of that time and its class's begin, and ends by the limit after its own length.
pub record IsSentNext (waiting : Waiting) (time : ℕ) (one : Sent) : Type 0 where
  pub head : slice_get (queue_of one.«class» waiting) 0 ≡ Some one.parcel
  pub start : one.start ≡ max time (begin_of one.«class» waiting.period)
  pub end : one.end ≡ one.start + parcel_time one.parcel.length
  pub in_time : one.end ≤ waiting.limit
  pub gives_way : GivesWay one.«class» waiting time

-- the list of a cycle, from a time on: each parcel may be sent after those before it, and the list ends
-- where no head would end by the limit
pub record IsSentFrom (waiting : Waiting) (time : ℕ) (sent : List Sent) : Type 0 where
  pub each : (before : List Sent) (one : Sent) (after : List Sent) → sent ≡ before ++ one ∷ after →
      IsSentNext (left_of waiting before) (end_from time before) one
  pub ended : (class : Class) → ¬ WouldEnd class (left_of waiting sent) (end_from time sent)

-- the list of a cycle, whose first parcel starts at its class's begin
abbrev pub IsSentList : Waiting → List Sent → Type 0
IsSentList waiting sent = IsSentFrom waiting 0 sent

-- Calls of `next` from a time on, each but the first with the end that the one before gave: they gave these,
-- then nothing, and that waits at the end.
abbrev pub Gives : Waiting → ℕ → List Sent → Waiting → Type 0
Gives waiting time [] last = (next_sent waiting time ≡ None) × (last ≡ left_after None waiting)
Gives waiting time (one ∷ more) last =
    (next_sent waiting time ≡ Some one) × Gives (left_after (Some one) waiting) one.end more last

abbrev pub first_and_more : Option Sent → (Sent → List Sent) → List Sent
first_and_more None more = []
first_and_more (Some one) more = one ∷ more one

-- what at most so many calls of `next` give from a time on
abbrev pub sent_in : ℕ → Waiting → ℕ → List Sent
sent_in zero waiting time = []
sent_in (suc calls) waiting time = first_and_more (next_sent waiting time) (λ one. sent_in calls (without_head one.«class» waiting) one.end)

-- the list of a cycle: every call but the last takes one of the parcels that wait
abbrev pub sent_of : Waiting → List Sent
sent_of waiting = sent_in (length waiting.orange + length waiting.green) waiting 0

-- The parcel starts at its class's begin or later, and it ends by the limit.
pub record IsTimed (period : Period) (limit : ℕ) (one : Sent) : Type 0 where
  pub opens : begin_of one.«class» period ≤ one.start
  pub rises : one.start < one.end
  pub closes : one.end ≤ limit

-- Each parcel of the list is sent in its time, and after those that stand before it have ended.
pub record AreInOrder (waiting : Waiting) (sent : List Sent) : Type 0 where
  pub each : All (IsTimed waiting.period waiting.limit) sent
  pub in_turn : AllPairs (λ one later. one.end ≤ later.start) sent

abbrev pub is_same_class : Class → Class → Bool
is_same_class Orange Orange = true
is_same_class Green Green = true
is_same_class _ _ = false

-- the parcels of a class that were sent, in their order
abbrev pub sent_parcels : Class → List Sent → List Parcel
sent_parcels kind sent = map (λ (one : Sent). one.parcel) (filter (λ (one : Sent). is_same_class kind one.«class») sent)
