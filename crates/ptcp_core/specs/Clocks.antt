-- The master, a relay and a slave. Times are ns.
use Rattle.std.specs.Prelude.{ℕ, ◌+◌, ◌*◌, ◌<◌, ◌==◌, ℤ, pos, ◌-ℤ◌, Bool, true, ◌||◌, nat_lt, nat_le, if◌then◌else◌, Option, Some, None}
use Rattle.ptcp_core.specs.declared.messages.TheConstants.{TIME_END}
use Rattle.ptcp_core.specs.declared.messages.SyncMsg.{SyncMsg}
use Rattle.ptcp_core.specs.declared.slave.Accepted.{Accepted}
use Rattle.ptcp_core.specs.declared.slave.SyncEvent.{SyncEvent}
use Rattle.ptcp_core.specs.declared.slave.SyncEvent.TheVariants.{Sync, Tick}
use Rattle.ptcp_core.specs.declared.slave.SyncState.{SyncState}
use Rattle.ptcp_core.specs.declared.slave.SyncState.TheVariants.{Muted, Synced}

-- a message as the master makes it
abbrev pub made_msg : ℕ → ℕ → ℕ → SyncMsg
made_msg number cycle now = record { number = number; cycle = cycle; hops = 0; origin = now; correction = 0 }

-- what the correction is once a link's delay and the time at a device are added
abbrev pub corrected : SyncMsg → ℕ → ℕ → ℕ
corrected msg line residence = msg.correction + line + residence

-- the message as it is sent on, where it may have one more hop and the correction is a time
abbrev pub relayed : SyncMsg → ℕ → ℕ → Option SyncMsg
relayed msg line residence =
    if (msg.hops == 255) || nat_le TIME_END (corrected msg line residence) then None else
    Some (record {
      number = msg.number;
      cycle = msg.cycle;
      hops = msg.hops + 1;
      origin = msg.origin;
      correction = corrected msg line residence;
    })

-- what a slave knows
pub record SlaveState : Type 0 where
  pub send : ℕ
  pub timeout : ℕ
  pub ticked : ℕ
  pub last : Option Accepted

abbrev pub fresh_slave : ℕ → ℕ → SlaveState
fresh_slave send timeout = record { send = send; timeout = timeout; ticked = 0; last = None }

-- the times of an event are times
abbrev pub IsEvent : SyncEvent → Type 0
IsEvent (Sync msg received line) = (msg.origin < TIME_END) × (received < TIME_END) × (msg.correction + line < TIME_END)
IsEvent (Tick cycle) = Unit {0}

-- by how much a slave's clock is ahead, by a message: received at 10000, made at 9000, after a correction of
-- 300 and a line of 500, it is 200
abbrev pub offset_of : SyncMsg → ℕ → ℕ → ℤ
offset_of msg received line = pos received -ℤ pos (msg.origin + (msg.correction + line))

-- the number exceeds that of the message accepted last, if there is one
abbrev pub is_newer : Option Accepted → ℕ → Bool
is_newer None number = true
is_newer (Some last) number = nat_lt last.number number

abbrev pub after_event : SlaveState → SyncEvent → SlaveState
after_event slave (Sync msg received line) =
    if is_newer slave.last msg.number then
    record slave { last = Some (record { number = msg.number; cycle = msg.cycle; offset = offset_of msg received line }) } else slave
after_event slave (Tick cycle) = record slave { ticked = cycle }

-- more cycles were ticked since a cycle than a slave waits
abbrev pub is_late : SlaveState → ℕ → Bool
is_late slave cycle = nat_lt (cycle + slave.send * slave.timeout) slave.ticked

-- how the clock stands by the message accepted last
abbrev pub state_by : SlaveState → Option Accepted → SyncState
state_by slave None = Muted
state_by slave (Some last) = if is_late slave last.cycle then Muted else Synced last.offset

abbrev pub state_of : SlaveState → SyncState
state_of slave = state_by slave slave.last
