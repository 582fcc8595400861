use Rattle.std.proofs.Common.{◌≡◌, subst, arith}
use Rattle.fit_rules.specs.Blocks.{IsGreatest}
use Rattle.irt_base.specs.declared.limits.TheConstants.{PHASES}
use Rattle.plan_schedule.specs.Greatest.{IsAnyBelow, IsPhaseBegin}
use Rattle.plan_schedule.proofs.GreatestLemmas.{greatest_next}
use Rattle.plan_schedule.proofs.RedLemmas.{phase_begin}
use Rattle.plan_schedule.proofs.red.port_end.Goals as goal

pub loop-phase-preserved : goal.loop-phase-preserved
loop-phase-preserved c =
    greatest_next (IsPhaseBegin c.args.block.now c.args.port.0) c.loop-phase.phase c.loop-phase.end c.period.result.orange c.loop-phase.invariant
    (phase_begin c.args.block.now c.args.port.0 c.loop-phase.phase c.period.result c.period.ensures) _ c.max-end.ensures

pub returns : goal.returns
returns c =
    let all : c.loop-phase.phase ≡ PHASES = omega arith in
    subst (λ n. IsGreatest (IsAnyBelow (IsPhaseBegin c.args.block.now c.args.port.0) n) c.loop-phase.end) all c.loop-phase.invariant
