-- What the blocks of accepted plans say of an event that happens.
use Rattle.std.specs.Prelude.{◌≡◌, ℕ, ◌≤◌, List, [], ◌∷◌, Some, slice_get, pos, ◌+ℤ◌}
use Rattle.irt_base.specs.Cycle.{wire_time}
use Rattle.irt_base.specs.declared.blocks.Bundle.{Bundle}
use Rattle.irt_base.specs.declared.limits.TheConstants.{MAX_DATA}
use Rattle.irt_base.specs.declared.plants.Demand.{Demand}
use Rattle.plan_rules.specs.Once.{IsDueFrame}
use Rattle.cycle_rows.specs.declared.rows.JournalRow.TheVariants.{Occupy}
use Rattle.cycle_events.specs.declared.events.Event.{Event}
use Rattle.cycle_events.specs.declared.events.What.TheVariants.{Start, Arrive}
use Rattle.cycle_events.specs.Events.{Play, Happens, rows_of}
use Rattle.irt_switch.specs.State.{HasPort}

-- The event's frame is demanded, and due in the cycle by the entry of its provider.
pub record IsDemanded (play : Play) (e : Event) : Type 0 where
  pub demand : Demand
  pub frame : IsDueFrame play.setup play.cycle e.frame.0 demand
  pub short : demand.length ≤ MAX_DATA

-- Whatever happens is of a frame that is demanded and due.
abbrev pub EventsAreDemanded : List Bundle → Play → Type 0
EventsAreDemanded bundles play = (e : Event) → Happens play e → IsDemanded play e

-- Starts give the occupation of their port, for as long as the frame's demanded length takes.
pub record IsStartOf (play : Play) (e : Event) : Type 0 where
  pub known : IsDemanded play e
  pub row : rows_of play e ≡ Occupy play.cycle e.device e.port e.frame e.at (e.at +ℤ pos (wire_time known.demand.length)) ∷ []

abbrev pub StartsAreKnown : List Bundle → Play → Type 0
StartsAreKnown bundles play = (e : Event) → e.what ≡ Start → Happens play e → IsStartOf play e

-- The device at which a frame arrives has blocks, and the port.
pub record IsPortOf (bundles : List Bundle) (device port : ℕ) : Type 0 where
  pub bundle : Bundle
  pub held : slice_get bundles device ≡ Some bundle
  pub has : HasPort bundle port

abbrev pub ArrivalsHavePorts : List Bundle → Play → Type 0
ArrivalsHavePorts bundles play = (e : Event) → e.what ≡ Arrive → Happens play e → IsPortOf bundles e.device.0 e.port.0
