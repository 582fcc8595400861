-- What a device does with an arrival, as a function of its blocks, the cycle and what is told of the arrival.
use Rattle.std.specs.Prelude.{ℕ, ◌==◌, Bool, false, not, ◌&&◌, nat_lt, if◌then◌else◌, length, Option, Some, None, option_and_then, find, Result, Ok, Err, ℤ, pos, ◌+ℤ◌, int_le}
use Rattle.irt_base.specs.Cycle.{wire_time, guard_time}
use Rattle.irt_base.specs.Periods.{period_at}
use Rattle.irt_base.specs.declared.blocks.Bundle.{Bundle}
use Rattle.irt_base.specs.declared.blocks.Entry.{Entry}
use Rattle.irt_base.specs.declared.blocks.Period.{Period}
use Rattle.irt_base.specs.declared.blocks.Side.TheVariants.{Rx}
use Rattle.rtc3_frame.specs.Frame.{Fields}
use Rattle.irt_switch.specs.declared.action.Action.{Action}
use Rattle.irt_switch.specs.declared.action.Action.TheVariants.{Forward, Dropped}
use Rattle.irt_switch.specs.declared.action.Cause.{Cause}
use Rattle.irt_switch.specs.declared.action.Cause.TheVariants.{NotInStep, UnknownFrame, WrongPort, OutsideRx, TooLate}
use Rattle.irt_switch.specs.Ports.{ports_of, is_kept}
use Rattle.irt_switch.specs.Release.{is_due}

-- What a switch is told of an arrival: when it begins, in local ns of the cycle, and by which port; and the frame,
-- where the bytes are one.
pub record Reception : Type 0 where
  pub local : ℤ
  pub port : ℕ
  pub frame : Option Fields

-- the frame that was read, if there was one
abbrev pub frame_of : {E : Type 0} → Result Fields E → Option Fields
frame_of (Ok fields) = Some fields
frame_of (Err fault) = None

-- the entry receives frames of this length, in this cycle
abbrev pub is_receiving : ℕ → ℕ → Entry → Bool
is_receiving k count e = nat_lt 0 e.rx_port && (e.data_length == count) && is_due k e

abbrev pub if_receiving : ℕ → ℕ → Entry → Option Entry
if_receiving k count e = if is_receiving k count e then Some e else None

-- the entry by which the device receives a frame in a cycle
abbrev pub receiving_of : Bundle → ℕ → Fields → Option Entry
receiving_of bundle k f =
    option_and_then (if_receiving k (length f.csdu)) (find (λ (e : Entry). e.frame.0 == f.frame) bundle.frames.entries)

-- it arrives whole in the red period, which begins a guard early
abbrev pub is_in_red : ℕ → Entry → ℤ → Period → Bool
is_in_red window e local rx =
    int_le (pos rx.red) (local +ℤ pos (guard_time window)) && int_le (local +ℤ pos (wire_time e.data_length)) (pos rx.orange)

abbrev pub passes : (Period → Bool) → Option Period → Bool
passes test None = false
passes test (Some rx) = test rx

abbrev pub is_received_in_red : Bundle → ℕ → Entry → ℤ → ℕ → Bool
is_received_in_red bundle k e local port = passes (is_in_red bundle.sync.window e local) (period_at bundle.periods port k Rx)

-- an absolute device has to send it on before it surely has it
abbrev pub is_late : Bundle → Entry → ℤ → Bool
is_late bundle e local =
    not bundle.frames.relative && nat_lt 0 (ports_of e.tx) && not (int_le (local +ℤ pos bundle.global.bridge) (pos e.send_offset))

-- the entry by which it is taken, or the first cause for which it is not
abbrev pub taken_by : Bundle → ℕ → Reception → Option Entry → Result Entry Cause
taken_by bundle k r None = Err UnknownFrame
taken_by bundle k r (Some e) =
    if not (e.rx_port == r.port) then Err WrongPort else
    if not (is_received_in_red bundle k e r.local r.port) then Err OutsideRx else
    if is_late bundle e r.local then Err TooLate else Ok e

abbrev pub taken_of : Bundle → ℕ → Bool → Reception → Result Entry Cause
taken_of bundle k in_step r =
    if not in_step then Err NotInStep else taken_by bundle k r (option_and_then (receiving_of bundle k) r.frame)

-- when the device sends it on: a relative one its bridge delay after the arrival, an absolute one at its offset
abbrev pub start_of : Bundle → Entry → ℤ → ℕ → ℤ
start_of bundle e local bridge = if bundle.frames.relative then local +ℤ pos bridge else pos e.send_offset

abbrev pub action_by : Bundle → ℤ → ℕ → Result Entry Cause → Action
action_by bundle local bridge (Err cause) = Dropped cause
action_by bundle local bridge (Ok e) = Forward (start_of bundle e local bridge) (ports_of e.tx) (is_kept e.tx)

-- the answer to an arrival, where a relative forwarder takes so many ns
abbrev pub action_of : Bundle → ℕ → Bool → Reception → ℕ → Action
action_of bundle k in_step r bridge = action_by bundle r.local bridge (taken_of bundle k in_step r)
