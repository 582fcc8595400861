-- What holds of the parts of a switch.
use Rattle.std.specs.Prelude.{◌≡◌, ℕ, ◌≤◌, List, length}
use Rattle.irt_base.specs.Valid.{IsBundle}
use Rattle.irt_base.specs.declared.blocks.Bundle.{Bundle}
use Rattle.irt_base.specs.declared.blocks.Entry.{Entry}
use Rattle.period_gate.specs.Gate.{Waiting}
use Rattle.irt_switch.specs.Order.{IsReleaseOrder}

-- valid blocks, their provided entries in order, a place in these, and one gate a port
pub record IsWhole (bundle : Bundle) (provided : List Entry) (past : ℕ) (gates : List Waiting) : Type 0 where
  pub valid : IsBundle bundle
  pub order : IsReleaseOrder bundle.frames.entries provided
  pub within : past ≤ length provided
  pub ports : length gates ≡ length bundle.periods.ports
