-- Slots of a link direction: when a frame may be on it, and which two keep clear of each other.
use Rattle.std.specs.Prelude.{ℕ, ◌+◌, ◌<◌, ◌≤◌, ◌==◌, ◌⊎◌, if◌then◌else◌, List, All, AllPairs}
use Rattle.irt_base.specs.Cycle.{SharesCycle, guard_time}
use Rattle.irt_base.specs.Valid.{IsRate}
use Rattle.window_sweep.specs.declared.slot.TheConstants.{MAX_END}
use Rattle.window_sweep.specs.declared.slot.SendSlot.{SendSlot}

pub record IsSendSlot (s : SendSlot) : Type 0 where
  pub proper : s.lo < s.end
  pub bounded : s.end ≤ MAX_END
  pub rate : IsRate s.ratio s.phase

-- valid slots of frames that ascend strictly
pub record AreSendSlots (slots : List SendSlot) : Type 0 where
  pub each : All IsSendSlot slots
  pub ascending : AllPairs (λ (a b : SendSlot). a.frame.0 < b.frame.0) slots

-- What two slots keep between them, in ns: with one anchor nothing, else the guard. The clocks of two anchors
-- may each be off by the window.
abbrev pub slack : ℕ → SendSlot → SendSlot → ℕ
slack window a b = if a.anchor.0 == b.anchor.0 then 0 else guard_time window

-- a ends before b begins; touching is allowed
abbrev pub IsBefore : ℕ → SendSlot → SendSlot → Type 0
IsBefore window a b = a.end + slack window a b ≤ b.lo

abbrev pub IsClear : ℕ → SendSlot → SendSlot → Type 0
IsClear window a b = IsBefore window a b ⊎ IsBefore window b a

-- both frames are due in some cycle
abbrev pub Share : SendSlot → SendSlot → Type 0
Share a b = SharesCycle a.ratio a.phase b.ratio b.phase
