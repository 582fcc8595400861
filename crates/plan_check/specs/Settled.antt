-- What is kept of an accepted plan.
use Rattle.std.specs.Prelude.{List}
use Rattle.irt_base.specs.declared.blocks.Bundle.{Bundle}
use Rattle.irt_base.specs.declared.plants.Plant.{Plant}
use Rattle.irt_window.specs.Trees.{AreWindows}
use Rattle.irt_window.specs.declared.windows.Windows.{Windows}
use Rattle.plan_rules.specs.Places.{IsAccepted}
use Rattle.plan_rules.specs.Plan.{IsPlan}

pub record Settled : Type 0 where
  pub plant : Plant
  pub bundles : List Bundle
  pub windows : Windows

-- a plan whose rules hold everywhere, and the windows of its frames
pub record IsSettled (plant : Plant) (bundles : List Bundle) (windows : Windows) : Type 0 where
  pub plan : IsPlan plant bundles
  pub accepted : IsAccepted plant bundles
  pub ways : AreWindows plant bundles windows
