-- The clocks of devices, as a row says them.
use Rattle.std.specs.Prelude.{ℕ, ◌*◌, Bool, ℤ, pos, ◌+ℤ◌}
use Rattle.irt_base.specs.Cycle.{cycle_time}
use Rattle.irt_base.specs.declared.plants.Plant.{Plant}
use Rattle.plan_rules.specs.World.{is_within_window}
use Rattle.irt_world.specs.Rows.{error_in}
use Rattle.irt_world.specs.declared.rows.Row.{Row}

-- When a device's cycle begins, in true ns. With cycles of 1000000, that of cycle 3 begins at 2999200 by a clock that is
-- off by -800.
abbrev pub begin_of : Plant → Row → ℕ → ℕ → ℤ
begin_of plant row k device = pos (k * cycle_time plant.factor) +ℤ error_in row device

-- its clock is off by at most the plant's window
abbrev pub keeps_step : Plant → Row → ℕ → Bool
keeps_step plant row device = is_within_window (error_in row device) (pos plant.window)
