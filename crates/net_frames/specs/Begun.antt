-- Switches that have begun a cycle.
use Rattle.std.specs.Prelude.{◌≡◌, ℕ, List, Some, slice_get}
use Rattle.irt_base.specs.declared.plants.Plant.{Plant}
use Rattle.irt_switch.specs.Begin.{IsToRelease}
use Rattle.irt_switch.specs.State.{SwitchState}
use Rattle.irt_world.specs.declared.rows.Row.{Row}
use Rattle.net_begin.specs.Clocks.{keeps_step}

-- A device has begun cycle k, in step or not by its clock, and has all its own frames of it still to release.
pub record HasBegun (plant : Plant) (row : Row) (k device : ℕ) (s : SwitchState) : Type 0 where
  pub cycle : s.cycle ≡ k
  pub in_step : s.in_step ≡ keeps_step plant row device
  pub release : IsToRelease s.bundle k (keeps_step plant row device) s.left

abbrev pub AllHaveBegun : Plant → Row → ℕ → List SwitchState → Type 0
AllHaveBegun plant row k switches = (device : ℕ) (s : SwitchState) → slice_get switches device ≡ Some s → HasBegun plant row k device s
