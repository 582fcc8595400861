-- Slots of a link direction: which two keep clear of each other, and what blocks a candidate.
use Rattle.std.specs.Prelude.{◌≡◌, ℕ, ◌+◌, ◌<◌, ◌≤◌, ◌==◌, ◌⊎◌, if◌then◌else◌, List, length, All, AllPairs, Contains, insert}
use Rattle.std.specs.List.{AllWithin}
use Rattle.gap_table.specs.declared.slot.TheConstants.{MAX_END}
use Rattle.gap_table.specs.declared.slot.Slot.{Slot}

pub record IsSlot (s : Slot) : Type 0 where
  pub proper : s.lo < s.end
  pub bounded : s.end ≤ MAX_END

-- What has to lie between two slots, in ns: with one anchor nothing, else the guard, since the clocks of two
-- anchors may each be off.
abbrev pub slack : ℕ → Slot → Slot → ℕ
slack guard a b = if a.anchor.0 == b.anchor.0 then 0 else guard

-- a ends before b begins; touching is allowed
abbrev pub EndsBefore : ℕ → Slot → Slot → Type 0
EndsBefore guard a b = a.end + slack guard a b ≤ b.lo

-- with what has to lie between them. Behind 0 to 6720 of another anchor, 8720 is clear by a guard of 2000.
abbrev pub IsClear : ℕ → Slot → Slot → Type 0
IsClear guard a b = EndsBefore guard a b ⊎ EndsBefore guard b a

-- each slot ends before the later ones begin
pub record AreOrdered (slots : List Slot) : Type 0 where
  pub each : All IsSlot slots
  pub order : AllPairs (λ (a b : Slot). a.end ≤ b.lo) slots

-- the old slots and a new one at its place, nothing else
pub record IsInserted (slot : Slot) (old new : List Slot) : Type 0 where
  pub place : ℕ
  pub inside : place ≤ length old
  pub is : new ≡ insert old place slot
  pub before : AllWithin (λ (s : Slot). s.end ≤ slot.lo) old 0 place
  pub after : AllWithin (λ (s : Slot). slot.end ≤ s.lo) old place (length old)

-- a slot moved to a later time
abbrev pub later : ℕ → Slot → Slot
later gap s = record { lo = s.lo + gap; end = s.end + gap; anchor = s.anchor }

-- A slot of the list blocks the candidate, and the direction is free behind it from then on.
pub record IsBlocker (guard : ℕ) (candidate : Slot) (slots : List Slot) (free : ℕ) : Type 0 where
  pub slot : Slot
  pub has : Contains slots slot
  pub valid : IsSlot slot
  pub starts : slot.lo < candidate.end + slack guard candidate slot
  pub is : free ≡ slot.end + slack guard slot candidate
  pub rises : candidate.lo < free
  -- no nanosecond before that is clear
  pub blocked : (gap : ℕ) → candidate.lo + gap < free → ¬ IsClear guard (later gap candidate) slot
