-- The run of a cycle: events are taken out of those that wait, one after the other, and what they cause waits then.
use Rattle.std.specs.Prelude.{◌≡◌, ℕ, ◌+◌, ◌≤◌, ◌≤ℤ◌, List, [], ◌∷◌, ◌++◌, length, Some, slice_get, All, AllPairs, Contains, IsPermutation}
use Rattle.std.specs.List.{count_by, flat_map}
use Rattle.irt_base.specs.declared.blocks.Bundle.{Bundle}
use Rattle.irt_base.specs.declared.plants.Plant.{Plant}
use Rattle.plan_rules.specs.Network.{IsNearCycle}
use Rattle.plan_rules.specs.Places.{IsAccepted}
use Rattle.plan_rules.specs.Plan.{IsPlan, setup_of}
use Rattle.plan_rules.specs.Way.{IsInRange}
use Rattle.plan_rules.specs.World.{WorldRow}
use Rattle.cycle_rows.specs.declared.rows.JournalRow.{JournalRow}
use Rattle.cycle_rows.specs.Journal.{IsSegment}
use Rattle.cycle_rows.specs.Order.{HasOtherKey, AreInOrder}
use Rattle.cycle_events.specs.declared.events.Event.{Event}
use Rattle.cycle_events.specs.Events.{Play, Happens, IsFirst, causes, rows_of}
use Rattle.cycle_events.specs.Places.{starts_by, places}

-- a run begins with exactly the starts of the frames that devices provide, each once
pub record IsBegun (play : Play) (first : List Event) : Type 0 where
  pub has : (e : Event) → IsFirst play e → Contains first e
  pub only : All (IsFirst play) first
  pub once : (device port frame : ℕ) → count_by (starts_by device port frame) first ≤ 1

-- What was handled and what waits: all of it happens, and it is, each once, what the run began with and what the
-- handled events caused.
pub record IsRunning (play : Play) (first handled waiting : List Event) : Type 0 where
  pub all : IsPermutation (handled ++ waiting) (first ++ flat_map (causes play) handled)
  pub happen : All (Happens play) (handled ++ waiting)

-- nothing waits any more
abbrev pub HasRun : Play → List Event → List Event → Type 0
HasRun play first handled = IsRunning play first handled []

-- the rows that events gave
abbrev pub rows_given : Play → List Event → List JournalRow
rows_given play handled = flat_map (rows_of play) handled

-- ---- what holds of every cycle

-- a cycle of a plan
abbrev pub play_of : Plant → List Bundle → WorldRow → ℕ → Play
play_of plant bundles row k = record { setup = setup_of plant bundles; row = row; cycle = k }

-- A fact of all cycles of accepted plans, with any clock errors and cut links and with bridge delays in their ranges.
abbrev pub ForPlays : (Play → Type 0) → Type 0
ForPlays Fact = (plant : Plant) (bundles : List Bundle) → IsPlan plant bundles → IsAccepted plant bundles →
    (row : WorldRow) → IsInRange (setup_of plant bundles) row → (k : ℕ) → Fact (play_of plant bundles row k)

-- What an event causes happens.
abbrev pub CausesHappen : Play → Type 0
CausesHappen play = (e : Event) → Happens play e → All (Happens play) (causes play e)

-- What an event causes does not lie before it.
abbrev pub CausesFollow : Play → Type 0
CausesFollow play = (e : Event) → Happens play e → All (λ (c : Event). e.at ≤ℤ c.at) (causes play e)

-- A run begins when nothing is handled.
abbrev pub RunsBegin : Play → Type 0
RunsBegin play = (first waiting : List Event) → IsBegun play first → IsPermutation first waiting → IsRunning play first [] waiting

-- A run goes on when an event is taken out of those that wait, and what it causes is put in, in whatever order.
abbrev pub RunsGoOn : Play → Type 0
RunsGoOn play = (first handled waiting rest left : List Event) (e : Event) → IsRunning play first handled waiting →
    IsPermutation waiting (e ∷ rest) → IsPermutation (causes play e ++ rest) left → IsRunning play first (handled ++ e ∷ []) left

-- No more events are handled and wait than the plan has places.
abbrev pub RunsAreShort : Play → Type 0
RunsAreShort play = (first handled waiting : List Event) → IsBegun play first → IsRunning play first handled waiting →
    length (handled ++ waiting) ≤ length (places play.setup)

-- The row of the play stands in a world with bridge delays in their ranges.
pub record IsPlayIn (play : Play) (world : List WorldRow) : Type 0 where
  pub ranges : All (IsInRange play.setup) world
  pub in_cycle : slice_get world play.cycle ≡ Some play.row

-- When nothing waits any more, the rows that were given have different keys.
abbrev pub RowsDiffer : Play → Type 0
RowsDiffer play = (world : List WorldRow) → IsPlayIn play world → (first handled : List Event) → IsBegun play first →
    HasRun play first handled → AllPairs HasOtherKey (rows_given play handled)

-- Put in order, they are the rows of the cycle's frames.
abbrev pub RowsAreSegment : Play → Type 0
RowsAreSegment play = (world : List WorldRow) → IsPlayIn play world → (first handled : List Event) → IsBegun play first →
    HasRun play first handled → (rows : List JournalRow) → IsPermutation (rows_given play handled) rows → AreInOrder rows →
    IsSegment play.setup world play.cycle rows

-- ---- one turn of a run

-- An event is taken out of those that wait.
pub record IsTurn (play : Play) (first handled waiting : List Event) (e : Event) (rest : List Event) : Type 0 where
  pub begun : IsBegun play first
  pub running : IsRunning play first handled waiting
  pub taken : IsPermutation waiting (e ∷ rest)

-- It happens, near its cycle.
pub record IsNearEvent (play : Play) (e : Event) : Type 0 where
  pub happens : Happens play e
  pub near : IsNearCycle play.setup.plant play.cycle e.at

abbrev pub TurnsHappen : Play → Type 0
TurnsHappen play = (first handled waiting rest : List Event) (e : Event) → IsTurn play first handled waiting e rest → IsNearEvent play e

-- With it and what it causes, no more events are handled and wait than the plan has places.
abbrev pub TurnsFit : Play → Type 0
TurnsFit play = (first handled waiting rest : List Event) (e : Event) → IsTurn play first handled waiting e rest →
    length handled + 1 + (length (causes play e) + length rest) ≤ length (places play.setup)

-- It gives one row at most, which stands behind those given before.
pub record GivesRow (play : Play) (handled : List Event) (e : Event) : Type 0 where
  pub one : length (rows_of play e) ≤ 1
  pub last : rows_given play (handled ++ e ∷ []) ≡ rows_given play handled ++ rows_of play e

abbrev pub TurnsGiveRows : Play → Type 0
TurnsGiveRows play = (handled : List Event) (e : Event) → GivesRow play handled e
