-- The scan of a device's ports.
use Rattle.std.specs.Prelude.{ℕ, ◌<◌, ◌≤◌, Option, Some, None}
use Rattle.irt_base.specs.Valid.{IsWithin}

-- A port from 1, of so many, fails, and none before it does.
pub record IsFirstPort (Keeps : ℕ → Type 0) (ports port : ℕ) : Type 0 where
  pub there : IsWithin 1 ports port
  pub fails : ¬ Keeps port
  pub before : (n : ℕ) → 1 ≤ n → n < port → Keeps n

abbrev pub IsPortScan : (ℕ → Type 0) → ℕ → Option ℕ → Type 0
IsPortScan Keeps ports None = (n : ℕ) → IsWithin 1 ports n → Keeps n
IsPortScan Keeps ports (Some port) = IsFirstPort Keeps ports port
