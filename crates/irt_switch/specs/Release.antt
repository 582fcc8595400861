-- Which frames a device itself starts in a cycle, and in which order.
use Rattle.std.specs.Prelude.{◌≡◌, ℕ, ◌+◌, ◌%◌, ◌<◌, ◌==◌, ◌⊎◌, ◌↔◌, Bool, List, Contains, AllPairs, pos, ◌<ℤ◌}
use Rattle.irt_base.specs.Cycle.{IsDue}
use Rattle.irt_base.specs.declared.blocks.Bundle.{Bundle}
use Rattle.irt_base.specs.declared.blocks.Entry.{Entry}
use Rattle.irt_switch.specs.declared.action.Outgoing.{Outgoing}
use Rattle.irt_switch.specs.Ports.{ports_of}

-- what an entry says of the start: at its offset, by its ports
abbrev pub outgoing_of : Entry → Outgoing
outgoing_of e = record { frame = e.frame; at = pos e.send_offset; ports = ports_of e.tx }

-- The device provides the frame, in the cycle: it has an entry of it that it receives from nobody, and that is due.
pub record IsReleased (bundle : Bundle) (k : ℕ) (o : Outgoing) : Type 0 where
  pub e : Entry
  pub stands : Contains bundle.frames.entries e
  pub provided : e.rx_port ≡ 0
  pub due : IsDue k e.ratio e.phase
  pub is : o ≡ outgoing_of e

-- by offset, then by FrameID
abbrev pub IsReleasedBefore : Outgoing → Outgoing → Type 0
IsReleasedBefore a b = (a.at <ℤ b.at) ⊎ ((a.at ≡ b.at) × (a.frame.0 < b.frame.0))

-- The frames that a device releases in a cycle: exactly those that it provides then, in their order, so each once.
pub record IsReleaseList (bundle : Bundle) (k : ℕ) (list : List Outgoing) : Type 0 where
  pub sorted : AllPairs IsReleasedBefore list
  pub exactly : (o : Outgoing) → Contains list o ↔ IsReleased bundle k o

-- ---- how a switch keeps them

abbrev pub is_due : ℕ → Entry → Bool
is_due k e = (k % e.ratio) + 1 == e.phase

abbrev pub is_provided : Entry → Bool
is_provided e = e.rx_port == 0
