use Rattle.fit_rules.specs.Blocks.{IsGreatest}
use Rattle.irt_window.specs.Plans.{setup_in}
use Rattle.plan_rules.specs.Arrival.{IsPlanned}
use Rattle.plan_schedule.specs.Greatest.{IsAnyBelow}
use Rattle.plan_schedule.proofs.planned.last_planned.Given as goal

abbrev pub invariant-loop-device : goal.invariant-loop-device
invariant-loop-device l = IsGreatest (IsAnyBelow (λ device planned. IsPlanned (setup_in l.net) device l.frame.0 planned) l.device) l.last
