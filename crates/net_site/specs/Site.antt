-- What the turns of a cycle know of a network.
use Rattle.std.specs.Prelude.{◌≡◌, ℕ, List, map}
use Rattle.irt_base.specs.declared.blocks.Bundle.{Bundle}
use Rattle.irt_base.specs.declared.plants.Plant.{Plant}
use Rattle.plan_rules.specs.Places.{IsAccepted}
use Rattle.plan_rules.specs.Plan.{IsPlan}
use Rattle.cycle_events.specs.Events.{Play}
use Rattle.cycle_events.specs.Run.{play_of}
use Rattle.irt_switch.specs.State.{SwitchState}
use Rattle.irt_world.specs.Forwardings.{forwardings}
use Rattle.irt_world.specs.Rows.{world_row, IsRowOf}
use Rattle.irt_world.specs.declared.forwardings.Forwarding.{Forwarding}
use Rattle.irt_world.specs.declared.rows.Row.{Row}

-- the plant, and the entries whose frames a row delays
pub record SiteState : Type 0 where
  pub plant : Plant
  pub delays : List Forwarding

-- what is played in a cycle with this row
abbrev pub play_in : Plant → List Bundle → Row → ℕ → Play
play_in plant bundles row k = play_of plant bundles (world_row plant bundles row) k

-- the blocks that switches play
abbrev pub bundles_of : List SwitchState → List Bundle
bundles_of switches = map (λ (s : SwitchState). s.bundle) switches

-- Accepted blocks of the plant, and a row that fits them.
pub record IsPlayedAt (site : SiteState) (bundles : List Bundle) (row : Row) : Type 0 where
  pub plan : IsPlan site.plant bundles
  pub accepted : IsAccepted site.plant bundles
  pub delays : site.delays ≡ forwardings site.plant bundles
  pub fits : IsRowOf site.plant bundles row
