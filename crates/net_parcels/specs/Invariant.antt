-- What parcels on the way keep.
use Rattle.std.specs.Prelude.{◌≡◌, ◌*◌, ◌≤◌, List, length, All, Contains}
use Rattle.period_gate.specs.declared.queue.TheConstants.{QUEUE_ROOM}
use Rattle.parcel_loads.specs.Flight.{FlightState}
use Rattle.parcel_rules.specs.Steps.{Step}
use Rattle.parcel_rules.specs.declared.handed.Handed.{Handed}
use Rattle.net_parcels.specs.Outlets.{ports_of}
use Rattle.net_parcels.specs.declared.outlets.Outlet.{Outlet}

-- one of the ports is at the device
abbrev pub IsAtOneOf : List Step → Handed → Type 0
IsAtOneOf ports h = (at : Step) × Contains ports at × (at.0 ≡ h.device)

-- No more than the ports can send is on the way, for which there is room, and it goes to devices that have ports.
pub record HasRoom (outlets : List Outlet) (flight : FlightState) : Type 0 where
  pub room : length outlets * (2 * QUEUE_ROOM) ≤ flight.room
  pub few : length flight.handed ≤ length outlets * (2 * QUEUE_ROOM)
  pub devices : All (IsAtOneOf (ports_of outlets)) flight.handed
