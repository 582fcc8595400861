-- Clocks whose time stamps are near the truth.
use Rattle.std.specs.Prelude.{◌≡◌, ℕ, ◌+◌, ◌*◌, ◌≤◌, ◌<◌, ℤ, pos, ◌+ℤ◌, ◌≤ℤ◌, List, [], ◌∷◌, Option, Some, None, option_and_then}
use Rattle.irt_base.specs.Cycle.{IsNear}
use Rattle.ptcp_core.specs.declared.messages.SyncMsg.{SyncMsg}
use Rattle.ptcp_core.specs.declared.slave.SyncEvent.{SyncEvent}
use Rattle.ptcp_core.specs.declared.slave.SyncEvent.TheVariants.{Sync, Tick}
use Rattle.ptcp_core.specs.Clocks.{SlaveState, after_event, relayed}

-- two offsets, which may be negative, differ by at most so much
abbrev pub AreNear : ℕ → ℤ → ℤ → Type 0
AreNear error a b = (a ≤ℤ (b +ℤ pos error)) × (b ≤ℤ (a +ℤ pos error))

-- A slave's clock: how many links it is away from the master, by how much a time stamp may be wrong, by how
-- much the clock drifts in a cycle, and by how much it is truly ahead of the master's in each cycle.
pub record SlaveClock : Type 0 where
  pub hops : ℕ
  pub stamp : ℕ
  pub drift : ℕ
  pub ahead : ℕ → ℤ
  pub drifts : (k : ℕ) → AreNear drift (ahead (k + 1)) (ahead k)

-- A sync message that is received in a cycle: it was truly sent, by the master's clock, and truly received,
-- by the slave's, after a true travel; the two stamps and what is known of the travel are near the truth.
pub record IsHonestSync (clock : SlaveClock) (now : ℕ) (msg : SyncMsg) (stamped line : ℕ) : Type 0 where
  pub sent : ℕ
  pub came : ℕ
  pub travel : ℕ
  pub truly : pos came ≡ pos sent +ℤ pos travel +ℤ clock.ahead now
  pub origin : IsNear clock.stamp msg.origin sent
  pub received : IsNear clock.stamp stamped came
  pub known : IsNear (clock.hops * (4 * clock.stamp + 1)) (msg.correction + line) travel
  pub earlier : msg.cycle ≤ now

-- the cycle of a tick comes after the last one
abbrev pub IsLater : Option ℕ → ℕ → Type 0
IsLater None cycle = Unit {0}
IsLater (Some last) cycle = last < cycle

-- a message comes after some tick, and is honest in the cycle of the last one
abbrev pub IsHonestAt : SlaveClock → Option ℕ → SyncMsg → ℕ → ℕ → Type 0
IsHonestAt clock None msg received line = ⊥
IsHonestAt clock (Some now) msg received line = IsHonestSync clock now msg received line

-- Events after the tick of a cycle, if there was one: the cycles of the ticks rise, and each message is honest
-- in the cycle of the tick before it. Messages may be lost, repeated, late or out of order.
abbrev pub AreHonest : SlaveClock → Option ℕ → List SyncEvent → Type 0
AreHonest clock now [] = Unit {0}
AreHonest clock now (Tick cycle ∷ more) = IsLater now cycle × AreHonest clock (Some cycle) more
AreHonest clock now (Sync msg received line ∷ more) = IsHonestAt clock now msg received line × AreHonest clock now more

-- a slave after these events
abbrev pub after_all : SlaveState → List SyncEvent → SlaveState
after_all slave [] = slave
after_all slave (event ∷ more) = after_all (after_event slave event) more

-- what a device that relays adds, and the true times: of its link from the device before, and of the stay
pub record Relay : Type 0 where
  pub line : ℕ
  pub residence : ℕ
  pub delay : ℕ
  pub stay : ℕ

-- what it adds differs from the true times by at most twice the error of a stamp each
abbrev pub IsHonestRelay : ℕ → Relay → Type 0
IsHonestRelay stamp r = IsNear (2 * stamp) r.line r.delay × IsNear (2 * stamp) r.residence r.stay

-- the message after these devices
abbrev pub relayed_by : SyncMsg → List Relay → Option SyncMsg
relayed_by msg [] = Some msg
relayed_by msg (r ∷ more) = option_and_then (λ m. relayed_by m more) (relayed msg r.line r.residence)

-- the true time over these links and at these devices
abbrev pub travel_of : List Relay → ℕ
travel_of [] = 0
travel_of (r ∷ more) = r.delay + r.stay + travel_of more
