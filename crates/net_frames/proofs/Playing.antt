-- What holds of all cycles, in one that is played.
use Rattle.std.proofs.Common.{ℕ, List}
use Rattle.irt_base.specs.declared.blocks.Bundle.{Bundle}
use Rattle.irt_switch.specs.State.{SwitchState}
use Rattle.irt_world.specs.Rows.{world_row}
use Rattle.irt_world.specs.declared.rows.Row.{Row}
use Rattle.cycle_events.specs.Events.{Play}
use Rattle.cycle_events.specs.Run.{ForPlays}
use Rattle.switch_events.specs.Answered.{ForSwitches}
use Rattle.net_site.specs.Site.{SiteState, bundles_of}
use Rattle.net_frames.specs.Playing.{IsPlaying, play_by}

pub of_switches : (Fact : List Bundle → Play → Type 0) → ForSwitches Fact → (site : SiteState) (row : Row) (k : ℕ) (switches : List SwitchState) (frames : List (List ℕ)) →
    IsPlaying site row k switches frames → Fact (bundles_of switches) (play_by site.plant switches row k)
of_switches Fact law site row k switches frames playing =
    law site.plant (bundles_of switches) playing.plan.plan playing.plan.accepted (world_row site.plant (bundles_of switches) row) playing.range k

pub in_cycle : (Fact : Play → Type 0) → ForPlays Fact → (site : SiteState) (row : Row) (k : ℕ) (switches : List SwitchState) (frames : List (List ℕ)) →
    IsPlaying site row k switches frames → Fact (play_by site.plant switches row k)
in_cycle Fact law = of_switches (λ bundles play. Fact play) law
