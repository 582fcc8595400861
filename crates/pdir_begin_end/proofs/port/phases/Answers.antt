use Rattle.std.proofs.Common.{arith, inr}
use Rattle.std.proofs.lemmas.Result.{err_from_is_err_and}
use Rattle.irt_block.proofs.Loops.{goes_on, ends, is_done}
use Rattle.pdir_begin_end.specs.Periods.{phase_at}
use Rattle.pdir_begin_end.proofs.port.phases.Goals as goal

pub returns-in_err-item-clause-gives : goal.returns-in_err-item-clause-gives
returns-in_err-item-clause-gives c =
    let p = err_from_is_err_and c.from_residual.result c.from_residual.ensures.1 in
    rw (p.1, p.2) (ends c.in_err-item.field-0.0 (phase_at c.args.most) c.loop.items c.args.count c.loop.counter c.args.extent c.loop.left.now _ c.loop-test.true (inr c.in_err-item.ensures.gives) c.loop.invariant.read)

pub loop-preserved : goal.loop-preserved
loop-preserved c =
    let shorter = c.in_ok-item.ensures.shorter in
    let before = c.loop.invariant.shorter in
    record {
      read = goes_on (phase_at c.args.most) c.loop.items c.push.new.self c.args.count c.loop.counter c.args.extent c.loop.left.now c.in_ok-item.item c.in_ok-item.after.now _ c.in_ok-push.ensures.ok c.loop-test.true c.in_ok-item.ensures.gives c.loop.invariant.read;
      shorter = omega arith;
    }

pub returns-clause-gives : goal.returns-clause-gives
returns-clause-gives c = is_done (phase_at c.args.most) c.loop.items c.args.count c.loop.counter c.args.extent c.loop.left.now _ c.loop-test.false c.loop.invariant.read
