use Rattle.std.proofs.Common.{refl, ap, ◌*◌, ℕ, arith}
use Rattle.sync_world.specs.Clocks.{heard_error}
use Rattle.sync_world.proofs.Bounds.{small_clock}
use Rattle.sync_world.proofs.Made.{made_more}
use Rattle.sync_world.proofs.Steps.{first_is, heard_is, later_is}
use Rattle.sync_world.proofs.clocks.heard_errors.Goals as goal

pub loop-cycle-init : goal.loop-cycle-init
loop-cycle-init c = record { errors = c.in_ok-errors.ensures; clock = first_is c.args.domain.now c.args.device.0 }

pub later-clock-requires-clause-small : goal.later-clock-requires-clause-small
later-clock-requires-clause-small c =
    small_clock c.args.domain.now c.args.device.0 c.loop-cycle.cycle c.loop-cycle.clock c.requires.valid (omega (arith, c.loop-cycle-test.true, c.requires.cycles))
    c.loop-cycle.invariant.clock (c.domains_have_bounds.ensures.clock c.args.domain.now c.args.device.0 c.loop-cycle.cycle c.requires.valid)

pub loop-cycle-preserved : goal.loop-cycle-preserved
loop-cycle-preserved c = record {
  errors = made_more (heard_error c.args.domain.now c.args.timeout c.args.device.0) c.loop-cycle.cycle c.loop-cycle.errors _ c.heard_by.result _
      c.in_ok-push.ensures.ok refl c.loop-cycle.invariant.errors
      (heard_is c.args.domain.now c.args.timeout c.args.device.0 c.loop-cycle.cycle _ c.loop-cycle.clock c.heard_by.result c.heard_by.ensures
      c.loop-cycle.invariant.clock (ap (λ (n : ℕ). c.args.domain.now.send * n) c.from.ensures));
  clock = later_is c.args.domain.now c.args.device.0 c.loop-cycle.cycle c.loop-cycle.clock c.later-clock.result c.later-clock.ensures
      c.loop-cycle.invariant.clock;
}
