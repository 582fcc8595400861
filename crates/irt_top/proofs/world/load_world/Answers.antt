use Rattle.std.specs.Global.{Vec}
use Rattle.std.specs.Prelude.{ℕ}
use Rattle.irt_base.specs.declared.limits.TheConstants.{WORLD_FILE}
use Rattle.irt_steps.proofs.StepLemmas.{follow_on}
use Rattle.irt_steps.specs.Steps.{loads, gives}
use Rattle.irt_top.specs.World.{reading_steps}
use Rattle.irt_top.proofs.RunLemmas.{follow_file}
use Rattle.irt_top.proofs.world.load_world.Goals as goal

pub returns-clause-step : goal.returns-clause-step
returns-clause-step g c =
    follow_on (λ (v : Vec ℕ). v.items) (λ w. w) (loads c.args.name.now WORLD_FILE (λ bytes. gives bytes)) (reading_steps c.args.accepted.now.plant c.args.accepted.now.bundles c.args.cycles)
    _ _ _ c.in_ok-bytes.bytes _ c.in_ok-bytes.ensures.step
    (follow_file c.args.accepted.now.plant c.args.accepted.now.bundles c.args.cycles _ _ _ _ c.as_slice.ensures.value c.world_in.ensures.step)
