-- What the ports send in a cycle, and where the parcels are after it.
use Rattle.std.specs.Prelude.{ℕ, zero, suc, if◌then◌else◌, List, [], map, flat_map, length, Option, Some, None, option_map, option_and_then, slice_get}
use Rattle.std.specs.List.{range_with_len, enumerate_from}
use Rattle.std.specs.Option.{option_map_or}
use Rattle.irt_base.specs.Periods.{period_at}
use Rattle.irt_base.specs.Wiring.{peer_of}
use Rattle.irt_base.specs.declared.blocks.Bundle.{Bundle}
use Rattle.irt_base.specs.declared.blocks.Period.{Period}
use Rattle.irt_base.specs.declared.blocks.Side.TheVariants.{Tx}
use Rattle.irt_base.specs.declared.numbers.DevId.{DevId}
use Rattle.irt_base.specs.declared.numbers.PortNo.{PortNo}
use Rattle.irt_base.specs.declared.plants.Device.{Device}
use Rattle.irt_base.specs.declared.plants.Plant.{Plant}
use Rattle.plan_rules.specs.World.{WorldRow, is_in_step, is_uncut}
use Rattle.period_gate.specs.declared.parcels.Sent.{Sent}
use Rattle.period_gate.specs.Gate.{Waiting}
use Rattle.period_gate.specs.SentList.{sent_of, left_of}
use Rattle.irt_switch.specs.Begin.{begun_gate}
use Rattle.parcel_rules.specs.declared.handed.Handed.{Handed}
use Rattle.parcel_rules.specs.Made.{handed_to}
use Rattle.parcel_rules.specs.Loads.{Gates, gate_at, Loads, no_loads, offered}
use Rattle.parcel_rules.specs.Steps.{Step}

-- ---- ports

-- the ports of a device, from 1
abbrev pub ports_at : ℕ → Device → List Step
ports_at device d = map (λ (port : ℕ). (record { 0 = device }, record { 0 = port })) (range_with_len 1 (length d.ports))

-- all ports of a plant, by device and port
abbrev pub all_ports : Plant → List Step
all_ports plant = flat_map (λ (d : ℕ × Device). ports_at d.0 d.1) (enumerate_from 0 plant.devices)

-- ---- sending

-- The gate of a port in a cycle, with the port's own Tx period and the limit of its device's blocks. There is none
-- where the blocks have no such port.
abbrev pub begun_at : List Bundle → ℕ → Step → Waiting → Option Waiting
begun_at bundles k at gate =
    option_and_then
    (λ (b : Bundle). option_map (λ (tx : Period). begun_gate b tx gate) (period_at b.periods at.1.0 k Tx))
    (slice_get bundles at.0.0)

-- The parcels that a port sends in a cycle, in their order: none where its device is not in step.
abbrev pub sends : Plant → List Bundle → WorldRow → ℕ → Gates → Step → List Sent
sends plant bundles row k gates at =
    if is_in_step plant row at.0.0 then option_map_or sent_of (begun_at bundles k at (gate_at gates at)) [] else []

-- the gates without what they send
abbrev pub after_sending : Plant → List Bundle → WorldRow → ℕ → Gates → Gates
after_sending plant bundles row k gates device port =
    left_of (gates device port) (sends plant bundles row k gates (record { 0 = device }, record { 0 = port }))

-- ---- the links

abbrev pub handed_on : DevId → Sent → Handed
handed_on device one = handed_to device one.parcel

-- what a port's link brings: all that the port at the other end sends, where the link is not cut
abbrev pub brought_from : Plant → List Bundle → WorldRow → ℕ → Gates → DevId → Option Step → List Handed
brought_from plant bundles row k gates device None = []
brought_from plant bundles row k gates device (Some far) =
    if is_uncut plant row far.0.0 far.1.0 then map (handed_on device) (sends plant bundles row k gates far) else []

-- what the links bring, by receiving device and port, and for one port in the order of sending
abbrev pub brought : Plant → List Bundle → WorldRow → ℕ → Gates → List Handed
brought plant bundles row k gates =
    flat_map (λ (at : Step). brought_from plant bundles row k gates at.0 (peer_of plant at.0.0 at.1.0)) (all_ports plant)

-- ---- cycles

abbrev pub after_sendings : Plant → List Bundle → WorldRow → ℕ → Gates → Loads
after_sendings plant bundles row k gates =
    record { gates = after_sending plant bundles row k gates; flight = brought plant bundles row k gates }

abbrev pub after_row : Plant → List Bundle → List (List PortNo) → ℕ → Loads → Option WorldRow → Loads
after_row plant bundles walks k loads None = loads
after_row plant bundles walks k loads (Some row) = after_sendings plant bundles row k (offered plant walks k loads).gates

-- where the parcels are at the beginning of a cycle
abbrev pub loads_at : Plant → List Bundle → List (List PortNo) → List WorldRow → ℕ → Loads
loads_at plant bundles walks world zero = no_loads
loads_at plant bundles walks world (suc k) =
    after_row plant bundles walks k (loads_at plant bundles walks world k) (slice_get world k)
