-- The gates of a network's switches in a cycle, beside those of the rules.
use Rattle.std.specs.Prelude.{replicate, ◌≡◌, ℕ, ◌-◌, ◌<◌, if◌then◌else◌, List, [], map, length, Some, slice_get, slice_set, All, Contains}
use Rattle.irt_base.specs.Periods.{period_at}
use Rattle.irt_base.specs.declared.blocks.Bundle.{Bundle}
use Rattle.irt_base.specs.declared.blocks.Period.{Period}
use Rattle.irt_base.specs.declared.blocks.Side.TheVariants.{Tx}
use Rattle.irt_base.specs.declared.plants.Plant.{Plant}
use Rattle.irt_switch.specs.Begin.{begun_gate}
use Rattle.irt_switch.specs.State.{SwitchState, HasPort, gate_of, with_gate}
use Rattle.parcel_rules.specs.Cycle.{all_ports}
use Rattle.parcel_rules.specs.Loads.{Gates, gate_at, Offers}
use Rattle.parcel_rules.specs.Steps.{Step}
use Rattle.period_gate.specs.Gate.{Waiting, nothing_waiting}
use Rattle.period_gate.specs.SentList.{sent_of, left_of}
use Rattle.period_gate.specs.declared.parcels.Sent.{Sent}
use Rattle.plan_rules.specs.World.{WorldRow, is_in_step}
use Rattle.net_parcels.specs.declared.outlets.Outlet.{Outlet}
use Rattle.net_parcels.specs.Notes.{NotesState}

-- A switch has a gate at the port.
pub record HasGate (s : SwitchState) (port : ℕ) : Type 0 where
  pub named : HasPort s.bundle port
  pub within : port - 1 < length s.gates

abbrev pub IsGated : List SwitchState → Step → Type 0
IsGated switches at = (s : SwitchState) × (slice_get switches at.0.0 ≡ Some s) × HasGate s at.1.0

-- what a switch sends by a port in a cycle: nothing where it is not in step
abbrev pub sent_by_port : SwitchState → ℕ → List Sent
sent_by_port s port = if s.in_step then sent_of (gate_of s port) else []

-- a switch without what waits at its gates
abbrev pub but_gates : SwitchState → SwitchState
but_gates s = record s { gates = replicate (length s.gates) nothing_waiting }

-- A port has sent what it sends, and the switch has the rest.
pub record IsSent (old : List SwitchState) (outlet : Outlet) (new : List SwitchState) : Type 0 where
  pub s : SwitchState
  pub there : slice_get old outlet.at.0.0 ≡ Some s
  pub sent : outlet.sent ≡ sent_by_port s outlet.at.1.0
  pub left : new ≡ slice_set old outlet.at.0.0 (with_gate s outlet.at.1.0 (left_of (gate_of s outlet.at.1.0) outlet.sent))

-- At this port these were sent, and the switch has the rest there.
pub record HasLeft (old new : List SwitchState) (at : Step) (sent : List Sent) : Type 0 where
  pub before : SwitchState
  pub after : SwitchState
  pub was : slice_get old at.0.0 ≡ Some before
  pub is : slice_get new at.0.0 ≡ Some after
  pub has : HasGate before at.1.0
  pub kept : but_gates after ≡ but_gates before
  pub count : length after.gates ≡ length before.gates
  pub left : gate_of after at.1.0 ≡ left_of (gate_of before at.1.0) sent

-- an outlet has all that its port sends
pub record HasSent (old new : List SwitchState) (outlet : Outlet) : Type 0 where
  pub left : HasLeft old new outlet.at outlet.sent
  pub sent : (s : SwitchState) → slice_get old outlet.at.0.0 ≡ Some s → outlet.sent ≡ sent_by_port s outlet.at.1.0

-- all that does not wait at gates
abbrev pub all_but_gates : List SwitchState → List SwitchState
all_but_gates switches = map but_gates switches

module _ (plant : Plant) (bundles : List Bundle) (row : WorldRow) (k : ℕ) where
  -- The gate of a port is this one, begun in cycle k.
  pub record IsGateAt (switches : List SwitchState) (at : Step) (gate : Waiting) : Type 0 where
    pub s : SwitchState
    pub tx : Period
    pub there : slice_get switches at.0.0 ≡ Some s
    pub bundle : slice_get bundles at.0.0 ≡ Some s.bundle
    pub in_step : s.in_step ≡ is_in_step plant row at.0.0
    pub has : HasGate s at.1.0
    pub period : period_at s.bundle.periods at.1.0 k Tx ≡ Some tx
    pub begun : gate_of s at.1.0 ≡ begun_gate s.bundle tx gate

  -- at all ports of the plant
  abbrev pub AreGatesAt : List SwitchState → Gates → Type 0
  AreGatesAt switches gates = (at : Step) → Contains (all_ports plant) at → IsGateAt switches at (gate_at gates at)

  -- The switches and the notes have what the rules have while parcels are handed over.
  pub record HoldOffers (switches : List SwitchState) (notes : NotesState) (o : Offers) : Type 0 where
    pub gates : AreGatesAt switches o.gates
    pub refused : notes.refused ≡ o.refused
    pub came : notes.came ≡ o.came

-- whatever the rules have
abbrev pub HoldSome : Plant → ℕ → List SwitchState → NotesState → Type 0
HoldSome plant k switches notes =
    (bundles : List Bundle) × (row : WorldRow) × (o : Offers) × HoldOffers plant bundles row k switches notes o

-- the steps are at ports of the plant
abbrev pub AreAtPorts : Plant → List (List Step) → Type 0
AreAtPorts plant steps = All (All (Contains (all_ports plant))) steps
