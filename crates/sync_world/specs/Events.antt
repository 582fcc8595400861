-- What reaches a device, as the events of a slave.
use Rattle.std.specs.Prelude.{◌≡◌, ℕ, zero, suc, ◌+◌, ◌*◌, ◌/◌, ℤ, List, [], ◌∷◌, ◌++◌, Option, Some, None}
use Rattle.ptcp_core.specs.declared.messages.SyncMsg.{SyncMsg}
use Rattle.ptcp_core.specs.declared.slave.SyncEvent.{SyncEvent}
use Rattle.ptcp_core.specs.declared.slave.SyncEvent.TheVariants.{Sync, Tick}
use Rattle.sync_world.specs.Clocks.{base_in}
use Rattle.sync_world.specs.declared.domain.Domain.{Domain}

-- by sync message, from 0: how it comes, when, and the delay of the line by which it came
pub record Deliveries : Type 0 where
  pub msg : ℕ → SyncMsg
  pub received : ℕ → ℕ
  pub line : ℕ → ℕ

-- Each has the number that the master gives it, from 1, and the cycle in which it is sent.
abbrev pub AreInTurn : ℕ → Deliveries → Type 0
AreInTurn send deliveries =
    (sync : ℕ) → ((deliveries.msg sync).number ≡ sync + 1) × ((deliveries.msg sync).cycle ≡ sync * send)

-- the message of a cycle, where it sets the device's clock to an error
abbrev pub delivered : Deliveries → ℕ → Option ℤ → List SyncEvent
delivered deliveries sync None = []
delivered deliveries sync (Some base) =
    Sync (deliveries.msg sync) (deliveries.received sync) (deliveries.line sync) ∷ []

-- the ticks up to a cycle, each followed by the message that reached the device in its cycle
unfoldable pub events_to : Domain → Deliveries → ℕ → ℕ → List SyncEvent
events_to domain deliveries device zero = Tick 0 ∷ []
events_to domain deliveries device (suc cycle) =
    (events_to domain deliveries device cycle
    ++ delivered deliveries (cycle / domain.send) (base_in domain device cycle)) ++ Tick (suc cycle) ∷ []
