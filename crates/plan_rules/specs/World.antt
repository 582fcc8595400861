-- What the outside does in a send cycle: clock errors, bridge delays and cut links; each fact has a test beside it.
use Rattle.std.specs.Prelude.{ℕ, ◌≡◌, ℤ, pos, ◌+ℤ◌, ◌≤ℤ◌, int_le, Bool, true, false, not, ◌&&◌, Option, Some, None, IfSome}
use Rattle.irt_base.specs.Wiring.{link_number}
use Rattle.irt_base.specs.declared.plants.Plant.{Plant}

-- one send cycle
pub record WorldRow : Type 0 where
  -- by device: how far its cycle begins after the true one, in ns
  pub error : ℕ → ℤ
  -- by device and FrameID: how long a relative forwarder takes, in ns
  pub bridge : ℕ → ℕ → ℕ
  -- by the number of a link
  pub is_cut : ℕ → Bool

-- an error is at most the window, either way
pub record IsWithinWindow (error window : ℤ) : Type 0 where
  pub early : pos 0 ≤ℤ (error +ℤ window)
  pub late : error ≤ℤ window

abbrev pub is_within_window : ℤ → ℤ → Bool
is_within_window error window = int_le (pos 0) (error +ℤ window) && int_le error window

-- the device is in step: within the plant's window
abbrev pub IsInStep : Plant → WorldRow → ℕ → Type 0
IsInStep plant row device = IsWithinWindow (row.error device) (pos plant.window)

abbrev pub is_in_step : Plant → WorldRow → ℕ → Bool
is_in_step plant row device = is_within_window (row.error device) (pos plant.window)

-- the link of a port is not cut
abbrev pub IsUncut : Plant → WorldRow → ℕ → ℕ → Type 0
IsUncut plant row device port = IfSome (link_number plant device port) (λ n. row.is_cut n ≡ false)

abbrev pub passes : WorldRow → Option ℕ → Bool
passes row None = true
passes row (Some link) = not (row.is_cut link)

abbrev pub is_uncut : Plant → WorldRow → ℕ → ℕ → Bool
is_uncut plant row device port = passes row (link_number plant device port)
