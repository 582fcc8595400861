-- The rule of a link direction: two frames that share a cycle keep clear of each other. The first pair that fails it.
use Rattle.std.specs.Prelude.{◌≡◌, ℕ, ◌<◌, ◌≤◌, ◌⊎◌, List, Contains, Option, None, Some}
use Rattle.irt_base.specs.declared.numbers.FrameId.{FrameId}
use Rattle.window_sweep.specs.Slots.{IsClear, Share}
use Rattle.window_sweep.specs.declared.slot.SendSlot.{SendSlot}

pub record AreClear (window : ℕ) (slots : List SendSlot) : Type 0 where
  pub each : (a b : SendSlot) → Contains slots a → Contains slots b → a.frame.0 < b.frame.0 → Share a b → IsClear window a b

-- two slots that share a cycle and don't keep clear
pub record Clash (window : ℕ) (a b : SendSlot) : Type 0 where
  pub share : Share a b
  pub meet : ¬ IsClear window a b

-- the frames f < g of two members that clash
pub record IsClash (window : ℕ) (slots : List SendSlot) (f g : ℕ) : Type 0 where
  pub first : SendSlot
  pub second : SendSlot
  pub has_first : Contains slots first
  pub has_second : Contains slots second
  pub named_first : first.frame.0 ≡ f
  pub named_second : second.frame.0 ≡ g
  pub ordered : f < g
  pub clash : Clash window first second

-- the pair (f, g) is (f', g') or stands before it
abbrev pub IsUpTo : ℕ → ℕ → ℕ → ℕ → Type 0
IsUpTo f g f' g' = (f < f') ⊎ ((f ≡ f') × (g ≤ g'))

pub record IsLeastClash (window : ℕ) (slots : List SendSlot) (f g : ℕ) : Type 0 where
  pub is : IsClash window slots f g
  pub least : (f' g' : ℕ) → IsClash window slots f' g' → IsUpTo f g f' g'

-- none where the rule holds, else the least pair that fails it
abbrev pub IsFirstClash : ℕ → List SendSlot → Option (FrameId × FrameId) → Type 0
IsFirstClash window slots None = AreClear window slots
IsFirstClash window slots (Some pair) = IsLeastClash window slots pair.0.0 pair.1.0
