-- What holds of the parts of a network.
use Rattle.std.specs.Prelude.{◌≡◌, ℕ, ◌+◌, ◌≤◌, List, length, map, All}
use Rattle.event_queue.specs.Waiting.{Waiting}
use Rattle.irt_base.specs.Wiring.{peer_of}
use Rattle.irt_base.specs.declared.numbers.PortNo.{PortNo}
use Rattle.irt_route.specs.Routes.{AreTrafficWalks}
use Rattle.irt_switch.specs.State.{SwitchState}
use Rattle.irt_world.specs.Forwardings.{forwardings}
use Rattle.net_frames.specs.Frames.{IsReadyFor, most_frames}
use Rattle.net_parcels.specs.Loads.{AreStepsOf}
use Rattle.net_parcels.specs.Parcels.{IsMadeFor, ParcelsState}
use Rattle.net_site.specs.Site.{SiteState, bundles_of}
use Rattle.parcel_rules.specs.Room.{most_rows}
use Rattle.parcel_rules.specs.Steps.{Step}
use Rattle.plan_rules.specs.Places.{IsAccepted}
use Rattle.plan_rules.specs.Plan.{IsPlan}

-- the walks that steps are of
abbrev pub walks_of : List (List Step) → List (List PortNo)
walks_of steps = map (map (λ (step : Step). step.1)) steps

-- a gate at each port
abbrev pub IsGated : SwitchState → Type 0
IsGated s = length s.gates ≡ length s.bundle.periods.ports

-- Switches with the blocks of an accepted plan, and room for what happens in a cycle.
pub record IsWhole (site : SiteState) (switches : List SwitchState) (parcels : ParcelsState) (queue : Waiting) (came most : ℕ) : Type 0 where
  pub plan : IsPlan site.plant (bundles_of switches)
  pub accepted : IsAccepted site.plant (bundles_of switches)
  pub delays : site.delays ≡ forwardings site.plant (bundles_of switches)
  pub gated : All IsGated switches
  pub made : IsMadeFor site.plant parcels
  pub steps : AreStepsOf site.plant (walks_of parcels.steps) parcels.steps
  pub walks : AreTrafficWalks (peer_of site.plant) site.plant.traffic (walks_of parcels.steps)
  pub ready : IsReadyFor (most_frames site.plant (bundles_of switches)) queue
  pub noted : most_frames site.plant (bundles_of switches) ≤ came
  pub rows : most_frames site.plant (bundles_of switches) + most_rows site.plant (walks_of parcels.steps) ≤ most
