-- What a device's answer to an arrival makes of the cycle.
use Rattle.std.specs.Prelude.{◌≡◌, ℕ, if◌then◌else◌, List, [], ◌∷◌, length, map, Some, slice_get, ℤ, pos, ◌+ℤ◌}
use Rattle.irt_base.specs.Cycle.{wire_time}
use Rattle.irt_base.specs.declared.blocks.Bundle.{Bundle}
use Rattle.irt_base.specs.declared.plants.Demand.{Demand}
use Rattle.irt_base.specs.declared.plants.Plant.{Plant}
use Rattle.plan_rules.specs.Places.{IsAccepted}
use Rattle.plan_rules.specs.Plan.{IsPlan, setup_of}
use Rattle.plan_rules.specs.Tree.{demand_of}
use Rattle.plan_rules.specs.Way.{IsInRange}
use Rattle.plan_rules.specs.World.{WorldRow, is_in_step}
use Rattle.rtc3_frame.specs.Frame.{Fields}
use Rattle.irt_switch.specs.declared.action.Action.{Action}
use Rattle.irt_switch.specs.declared.action.Action.TheVariants.{Forward, Dropped}
use Rattle.irt_switch.specs.Arrive.{Reception, action_of}
use Rattle.irt_switch.specs.Played.{TakesBridge, true_time}
use Rattle.cycle_rows.specs.declared.rows.JournalRow.{JournalRow}
use Rattle.cycle_rows.specs.declared.rows.JournalRow.TheVariants.{Occupy, Deliver, Missed}
use Rattle.cycle_events.specs.declared.events.Event.{Event}
use Rattle.cycle_events.specs.declared.events.What.TheVariants.{Start, Arrive}
use Rattle.cycle_events.specs.Events.{Play, Happens, arrival_of, ports_in, event, causes, rows_of}
use Rattle.cycle_events.specs.Run.{play_of}

-- the starts of a frame by a set of ports
abbrev pub starts_of : ℤ → ℕ → ℕ → ℕ → List Event
starts_of at device frame ports = map (λ port. event at device port frame Start) (ports_in ports)

-- the true time of a device's local time
abbrev pub true_of : Play → ℕ → ℤ → ℤ
true_of play device local = true_time play.setup.plant play.row play.cycle device local

-- the events that the answer to an arrival brings about
abbrev pub brought_about : Play → Event → Action → List Event
brought_about play e (Forward at ports here) = starts_of (true_of play e.device.0 at) e.device.0 e.frame.0 ports
brought_about play e (Dropped cause) = []

-- the rows that the answer gives, for a frame with so many bytes of data
abbrev pub written_by : Play → Event → ℕ → Action → List JournalRow
written_by play e bytes (Forward at ports here) =
    if here then Deliver play.cycle e.device e.frame (e.at +ℤ pos (wire_time bytes)) ∷ [] else []
written_by play e bytes (Dropped cause) = Missed play.cycle e.device e.frame ∷ []

-- A switch is told of an arrival: of a frame with its FrameID and the length that is demanded, of the port and the
-- time.
pub record Tells (play : Play) (e : Event) (r : Reception) : Type 0 where
  pub demand : Demand
  pub fields : Fields
  pub demanded : demand_of play.setup.plant e.frame.0 ≡ Some demand
  pub read : r.frame ≡ Some fields
  pub frame : fields.frame ≡ e.frame.0
  pub count : length fields.csdu ≡ demand.length
  pub port : r.port ≡ e.port.0
  pub time : true_of play e.device.0 r.local ≡ e.at

-- The answer brings about what the arrival causes, and gives the arrival's rows.
pub record IsAnswer (play : Play) (e : Event) (bytes : ℕ) (action : Action) : Type 0 where
  pub causes : brought_about play e action ≡ causes play e
  pub rows : written_by play e bytes action ≡ rows_of play e

-- A fact of all cycles of accepted plans and of their devices' blocks.
abbrev pub ForSwitches : (List Bundle → Play → Type 0) → Type 0
ForSwitches Fact = (plant : Plant) (bundles : List Bundle) → IsPlan plant bundles → IsAccepted plant bundles →
    (row : WorldRow) → IsInRange (setup_of plant bundles) row → (k : ℕ) → Fact bundles (play_of plant bundles row k)

-- Each device answers by its own blocks what is told of an arrival at it.
abbrev pub AnswersAreEvents : List Bundle → Play → Type 0
AnswersAreEvents bundles play = (e : Event) → e.what ≡ Arrive → Happens play e → (bundle : Bundle) → slice_get bundles e.device.0 ≡ Some bundle →
    (r : Reception) → (told : Tells play e r) → (bridge : ℕ) → TakesBridge play.setup play.row (arrival_of play e) bridge →
    IsAnswer play e told.demand.length (action_of bundle play.cycle (is_in_step play.setup.plant play.row e.device.0) r bridge)

-- A start gives an occupation, for as long as the frame's demanded length takes.
abbrev pub StartsOccupy : List Bundle → Play → Type 0
StartsOccupy bundles play = (e : Event) (demand : Demand) → e.what ≡ Start → Happens play e → demand_of play.setup.plant e.frame.0 ≡ Some demand →
    rows_of play e ≡ Occupy play.cycle e.device e.port e.frame e.at (e.at +ℤ pos (wire_time demand.length)) ∷ []
