-- What the begin of a cycle makes of a switch.
use Rattle.std.specs.Prelude.{◌≡◌, ℕ, ◌+◌, ◌-◌, ◌<◌, ◌≤◌, Bool, true, false, List, [], length, Some, option_map, slice_get, All}
use Rattle.irt_base.specs.Cycle.{cycle_time, guard_time}
use Rattle.irt_base.specs.Periods.{period_at}
use Rattle.irt_base.specs.declared.blocks.Bundle.{Bundle}
use Rattle.irt_base.specs.declared.blocks.Period.{Period}
use Rattle.irt_base.specs.declared.blocks.SyncBlock.{SyncBlock}
use Rattle.irt_base.specs.declared.blocks.Side.TheVariants.{Tx}
use Rattle.period_gate.specs.declared.queue.TheConstants.{QUEUE_ROOM}
use Rattle.period_gate.specs.Gate.{Waiting}
use Rattle.irt_switch.specs.declared.action.Outgoing.{Outgoing}
use Rattle.irt_switch.specs.State.{SwitchState}
use Rattle.irt_switch.specs.Release.{IsReleaseList}

-- The local time, in ns, by which parcels end: the guard before the cycle's end. Factor 32 and a window of 1000 give 998000.
abbrev pub parcel_limit : SyncBlock → ℕ
parcel_limit sync = cycle_time sync.factor - guard_time sync.window

-- a gate with the port's Tx period of a cycle, and the limit
abbrev pub begun_gate : Bundle → Period → Waiting → Waiting
begun_gate bundle tx waiting = record waiting { period = tx; limit = parcel_limit bundle.sync }

-- what is released in a cycle: nothing where the device is not in step
abbrev pub IsToRelease : Bundle → ℕ → Bool → List Outgoing → Type 0
IsToRelease bundle k true list = IsReleaseList bundle k list
IsToRelease bundle k false list = list ≡ []

-- at most so many parcels of each class wait
abbrev pub HasRoom : Waiting → Type 0
HasRoom waiting = (length waiting.orange ≤ QUEUE_ROOM) × (length waiting.green ≤ QUEUE_ROOM)

-- Every gate has begun a cycle, each with its own port's Tx period, and what waits at it still waits.
pub record AreBegun (bundle : Bundle) (k : ℕ) (old new : List Waiting) : Type 0 where
  pub count : length new ≡ length old
  pub each : (index : ℕ) (tx : Period) → index < length old → period_at bundle.periods (index + 1) k Tx ≡ Some tx →
      slice_get new index ≡ option_map (begun_gate bundle tx) (slice_get old index)
  pub room : All HasRoom new

-- A switch has begun a cycle, in step or not.
pub record Begins (old : SwitchState) (k : ℕ) (step : Bool) (new : SwitchState) : Type 0 where
  pub bundle : new.bundle ≡ old.bundle
  pub cycle : new.cycle ≡ k
  pub in_step : new.in_step ≡ step
  pub release : IsToRelease old.bundle k step new.left
  pub gates : AreBegun old.bundle k old.gates new.gates
