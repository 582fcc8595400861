-- A switch, as its clauses see it.
use Rattle.std.specs.Prelude.{ℕ, ◌-◌, Bool, false, if◌then◌else◌, List, [], length, replicate, slice_index_or, slice_set, Option, None}
use Rattle.irt_base.specs.Valid.{IsWithin}
use Rattle.irt_base.specs.declared.blocks.Bundle.{Bundle}
use Rattle.period_gate.specs.Gate.{Waiting, nothing_waiting, next_sent}
use Rattle.period_gate.specs.declared.parcels.Sent.{Sent}
use Rattle.irt_switch.specs.declared.action.Outgoing.{Outgoing}

pub record SwitchState : Type 0 where
  -- the device's own blocks
  pub bundle : Bundle
  -- the cycle that was begun last, and whether the device is in step in it
  pub cycle : ℕ
  pub in_step : Bool
  -- the frames that are still to be released in it
  pub left : List Outgoing
  -- the gates, from port 1 on
  pub gates : List Waiting

-- a switch before its first cycle
abbrev pub new_switch : Bundle → SwitchState
new_switch bundle = record {
  bundle = bundle;
  cycle = 0;
  in_step = false;
  left = [];
  gates = replicate (length bundle.periods.ports) nothing_waiting;
}

-- one of the ports, from 1
abbrev pub HasPort : Bundle → ℕ → Type 0
HasPort bundle port = IsWithin 1 (length bundle.periods.ports) port

-- the gate of a port
abbrev pub gate_of : SwitchState → ℕ → Waiting
gate_of state port = slice_index_or state.gates (port - 1) nothing_waiting

-- a switch with another gate at a port
abbrev pub with_gate : SwitchState → ℕ → Waiting → SwitchState
with_gate state port waiting = record state { gates = slice_set state.gates (port - 1) waiting }

-- the parcel that a port sends next from a time on: none where the device is not in step
abbrev pub sent_next : SwitchState → ℕ → ℕ → Option Sent
sent_next state port local = if state.in_step then next_sent (gate_of state port) local else None
