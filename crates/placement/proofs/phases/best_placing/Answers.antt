use Rattle.std.proofs.Common.{◌+◌, rules, arith}
use Rattle.placement.proofs.BestPhase.{one_phase, found_in, none_in}
use Rattle.placement.proofs.phases.best_placing.Goals as goal

pub loop-phase-preserved : goal.loop-phase-preserved
loop-phase-preserved c =
    rw c.earlier-best.ensures (one_phase c.args.limits c.args.ratio c.args.layout.now c.args.gaps.now c.requires.layout c.loop-phase.phase c.loop-phase.best
    c.placing_in-next.result (search rules) c.loop-phase.invariant c.placing_in-next.ensures)

pub returns-clause-found : goal.returns-clause-found
returns-clause-found c =
    found_in c.args.limits c.args.ratio c.args.layout.now c.args.gaps.now c.loop-phase.phase (c.args.ratio + 1) c.loop-phase.best (search (rules, arith)) c.loop-phase.invariant

pub returns-clause-none : goal.returns-clause-none
returns-clause-none c =
    none_in c.args.limits c.args.ratio c.args.layout.now c.args.gaps.now c.loop-phase.phase (c.args.ratio + 1) c.loop-phase.best (search (rules, arith)) c.loop-phase.invariant
