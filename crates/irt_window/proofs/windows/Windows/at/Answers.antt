use Rattle.plan_rules.specs.Plan.{setup_of}
use Rattle.std.proofs.Common.{sym, ◌∙◌}
use Rattle.std.proofs.lemmas.Bool.{false≢true}
use Rattle.irt_window.proofs.Tabled.{no_window, idle_window, its_window}
use Rattle.irt_window.proofs.windows.Windows.at.Goals as goal

pub returns-in-None : goal.returns-in-None
returns-in-None c =
    λ plant bundles are.
    no_window (setup_of plant bundles) c.args.device.0 c.args.frame.0 (c.in-None.ensures.found plant bundles are)

pub returns-then-leaves : goal.returns-then-leaves
returns-then-leaves c =
    λ plant bundles are.
    its_window (setup_of plant bundles) c.args.device.0 c.args.frame.0 c.in-Some.entry c.in-Some.way c.window_of.result
    (c.in-Some.ensures.found plant bundles are) (c.leaves.ensures.0 c.if-leaves.true) c.window_of.ensures

pub returns-else-leaves : goal.returns-else-leaves
returns-else-leaves c =
    λ plant bundles are.
    idle_window (setup_of plant bundles) c.args.device.0 c.args.frame.0 c.in-Some.entry c.in-Some.way (c.in-Some.ensures.found plant bundles are)
    (λ some. false≢true (sym c.if-leaves.false ∙ c.leaves.ensures.1 some))
