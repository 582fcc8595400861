use Rattle.std.proofs.Common.{arith}
use Rattle.irt_window.specs.Plans.{setup_in}
use Rattle.plan_rules.specs.Arrival.{IsPlanned}
use Rattle.plan_schedule.proofs.GreatestLemmas.{greatest_next}
use Rattle.plan_schedule.proofs.PlannedLemmas.{planned_all}
use Rattle.plan_schedule.proofs.planned.last_planned.Goals as goal

pub loop-device-preserved : goal.loop-device-preserved
loop-device-preserved c =
    greatest_next (λ device planned. IsPlanned (setup_in c.args.net.now) device c.args.frame.0 planned) c.loop-device.device c.loop-device.last c.planned_at.result
    c.loop-device.invariant c.planned_at.ensures _ c.max-last.ensures

pub returns : goal.returns
returns c =
    planned_all c.args.net.now.plant.now c.args.net.now.bundles.now c.args.frame.0 c.loop-device.device c.loop-device.last (omega arith) c.loop-device.invariant
