use Rattle.plan_check.proofs.ClockBreaks.{has_clock}
use Rattle.plan_run.proofs.world.tree_of.Goals as goal

pub unreachable-requires : goal.unreachable-requires
unreachable-requires c =
    has_clock c.args.plant.now c.in-Err-NoClock.field-0 c.in-Err-NoClock.field-0-0 c.requires.rules c.requires.ptcp c.in-Err-NoClock.field-0-is
    c.in-Err-NoClock.ensures.fault
