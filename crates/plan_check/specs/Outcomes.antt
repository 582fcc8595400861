-- What the rules give, before anything is kept of the plan.
use Rattle.std.specs.Prelude.{List, Option, Some, None}
use Rattle.irt_base.specs.declared.blocks.Bundle.{Bundle}
use Rattle.irt_base.specs.declared.plants.Plant.{Plant}
use Rattle.plan_rules.specs.Places.{IsReject}
use Rattle.plan_rules.specs.declared.place.Reject.{Reject}
use Rattle.plan_check.specs.Settled.{IsSettled}
use Rattle.plan_check.specs.declared.order.Outcome.{Outcome}
use Rattle.plan_check.specs.declared.order.Outcome.TheVariants.{Holds, Fails}

-- all rules hold and these are the windows, or this rule fails first
abbrev pub IsOutcome : Plant → List Bundle → Outcome → Type 0
IsOutcome plant bundles (Holds windows) = IsSettled plant bundles windows
IsOutcome plant bundles (Fails r) = IsReject plant bundles r
