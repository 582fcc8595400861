use Rattle.std.proofs.Common.{subst}
use Rattle.irt_route.specs.Clocks.{IsClockFault}
use Rattle.irt_top.proofs.SyncLemmas.{report_stops}
use Rattle.irt_top.proofs.sync.report.Goals as goal

pub returns-in-Err-NoClock-clause-step : goal.returns-in-Err-NoClock-clause-step
returns-in-Err-NoClock-clause-step c =
    report_stops c.args.plant.now c.args.cycles c.args.seed c.in-Err-NoClock.device.0 c.cut_off.result
    (subst (IsClockFault c.args.plant.now) c.in-Err-NoClock.field-0-is c.in-Err-NoClock.ensures.fault) c.cut_off.ensures.ending
