-- What a device does with a parcel that is handed over to it.
use Rattle.std.specs.Prelude.{◌==◌, if◌then◌else◌, length, Option, Some, None}
use Rattle.irt_base.specs.declared.plants.Class.{Class}
use Rattle.irt_base.specs.declared.plants.Traffic.{Traffic}
use Rattle.period_gate.specs.declared.parcels.Parcel.{Parcel}
use Rattle.period_gate.specs.declared.queue.TheConstants.{QUEUE_ROOM}
use Rattle.period_gate.specs.Gate.{queue_of, with_last}
use Rattle.irt_switch.specs.State.{SwitchState, gate_of, with_gate}
use Rattle.parcel_rules.specs.declared.handed.Handed.{Handed}
use Rattle.parcel_rules.specs.Steps.{Step}
use Rattle.parcel_loads.specs.declared.passing.Passed.{Passed}
use Rattle.parcel_loads.specs.declared.passing.Passed.TheVariants.{Came, Queued, Refused, Stays}

-- an offer to a port
abbrev pub offered_to : SwitchState → Class → Option Step → Passed
offered_to state kind None = Stays
offered_to state kind (Some at) =
    if length (queue_of kind (gate_of state at.1.0)) == QUEUE_ROOM then Refused at.1 else Queued at.1

-- at its target a parcel has come; elsewhere it is offered to the port by which its walk goes on
abbrev pub passed_of : SwitchState → Traffic → Option Step → Handed → Passed
passed_of state t step h = if t.target.0 == h.device.0 then Came else offered_to state t.«class» step

-- the switch after it
abbrev pub after_passing : SwitchState → Class → Parcel → Passed → SwitchState
after_passing state kind parcel Came = state
after_passing state kind parcel (Queued port) = with_gate state port.0 (with_last kind parcel (gate_of state port.0))
after_passing state kind parcel (Refused port) = state
after_passing state kind parcel Stays = state
