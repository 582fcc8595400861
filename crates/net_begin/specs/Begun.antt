-- What the begin of a cycle makes of the switches of a network.
use Rattle.std.specs.Prelude.{◌≡◌, ℕ, ◌+◌, List, [], ◌∷◌, ◌++◌, length, Some, slice_get, All, ℤ}
use Rattle.irt_base.specs.declared.plants.Plant.{Plant}
use Rattle.cycle_events.specs.declared.events.Event.{Event}
use Rattle.irt_switch.specs.Begin.{Begins}
use Rattle.irt_switch.specs.State.{SwitchState}
use Rattle.irt_switch.specs.declared.action.Outgoing.{Outgoing}
use Rattle.irt_world.specs.declared.rows.Row.{Row}
use Rattle.net_starts.specs.Released.{IsSmallTime, starts_from}
use Rattle.net_begin.specs.Clocks.{keeps_step}

-- Each switch has begun the cycle, in step or not by its own clock.
pub record HaveBegun (plant : Plant) (row : Row) (k : ℕ) (old new : List SwitchState) : Type 0 where
  pub count : length new ≡ length old
  pub each : (device : ℕ) (before after : SwitchState) → slice_get old device ≡ Some before → slice_get new device ≡ Some after →
      Begins before k (keeps_step plant row device) after

-- what it still has to release, it releases at times of at most 60 bits
abbrev pub HasSmallTimes : SwitchState → Type 0
HasSmallTimes s = All (λ (o : Outgoing). IsSmallTime 60 o.at) s.left

-- a switch that has released all
abbrev pub released : SwitchState → SwitchState
released s = record s { left = [] }

-- the starts of what the devices from one on still have to release, where each one's cycle begins at a time of its own
abbrev pub starts_of_all : (ℕ → ℤ) → ℕ → List SwitchState → List Event
starts_of_all begin device [] = []
starts_of_all begin device (s ∷ more) = starts_from (begin device) device s.left ++ starts_of_all begin (device + 1) more
