-- What the devices release in a cycle makes of it.
use Rattle.std.specs.Prelude.{◌≡◌, ℕ, ◌+◌, List, [], ◌∷◌, ◌++◌, length, Some, slice_get}
use Rattle.std.specs.List.{flat_map}
use Rattle.irt_base.specs.declared.blocks.Bundle.{Bundle}
use Rattle.irt_switch.specs.declared.action.Outgoing.{Outgoing}
use Rattle.irt_switch.specs.Begin.{IsToRelease}
use Rattle.cycle_events.specs.declared.events.Event.{Event}
use Rattle.plan_rules.specs.World.{is_in_step}
use Rattle.cycle_events.specs.Events.{Play}
use Rattle.cycle_events.specs.Run.{IsBegun}
use Rattle.switch_events.specs.Answered.{starts_of, true_of}

-- the starts of what a device releases
abbrev pub starts_released : Play → ℕ → List Outgoing → List Event
starts_released play device list = flat_map (λ (o : Outgoing). starts_of (true_of play device o.at) device o.frame.0 o.ports) list

-- those of the devices from one on
abbrev pub first_from : Play → ℕ → List (List Outgoing) → List Event
first_from play device [] = []
first_from play device (list ∷ more) = starts_released play device list ++ first_from play (device + 1) more

-- Each device releases exactly what it has to, by its own blocks.
pub record AreReleased (bundles : List Bundle) (play : Play) (released : List (List Outgoing)) : Type 0 where
  pub count : length released ≡ length bundles
  pub each : (device : ℕ) (bundle : Bundle) (list : List Outgoing) → slice_get bundles device ≡ Some bundle → slice_get released device ≡ Some list →
      IsToRelease bundle play.cycle (is_in_step play.setup.plant play.row device) list

-- A run of the cycle begins with that.
abbrev pub ReleasesAreFirst : List Bundle → Play → Type 0
ReleasesAreFirst bundles play = (released : List (List Outgoing)) → AreReleased bundles play released → IsBegun play (first_from play 0 released)
