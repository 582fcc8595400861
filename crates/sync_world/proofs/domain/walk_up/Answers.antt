use Rattle.std.proofs.Common.{◌++◌, List, ℕ, ap, ap₂, ◌∙◌}
use Rattle.irt_base.specs.declared.numbers.DevId.{DevId}
use Rattle.sync_world.specs.Domain.{device_of, walk_up}
use Rattle.sync_world.proofs.Walks.{walk_step, walk_end}
use Rattle.sync_world.proofs.domain.walk_up.Goals as goal

pub loop-left-init : goal.loop-left-init
loop-left-init c = ap₂ (λ (w : List DevId) (n : ℕ). w ++ walk_up c.args.tree.now n c.args.device) c.new-walk.ensures c.hops-left.ensures

pub loop-left-preserved : goal.loop-left-preserved
loop-left-preserved c =
    walk_step c.args.tree.now c.loop-left.walk c.push.new.self _ c.loop-left.left c.loop-left.at c.device_of-at.result
    c.loop-left-test.true c.in_ok-push.ensures.ok (c.device_of-at.ensures ∙ ap device_of c.parent.ensures) c.loop-left.invariant

pub returns : goal.returns
returns c = walk_end c.args.tree.now c.loop-left.walk _ c.loop-left.left c.loop-left.at c.loop-left-test.false c.loop-left.invariant
