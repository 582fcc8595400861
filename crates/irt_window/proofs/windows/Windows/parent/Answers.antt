use Rattle.plan_rules.specs.Plan.{setup_of}
use Rattle.irt_window.proofs.Tabled.{no_source, own_source, its_source}
use Rattle.irt_window.proofs.windows.Windows.parent.Goals as goal

pub returns-in-None : goal.returns-in-None
returns-in-None c =
    λ plant bundles are.
    no_source (setup_of plant bundles) c.args.device.0 c.args.frame.0 (c.in-None.ensures.found plant bundles are)

pub returns-then-entry-eq0 : goal.returns-then-entry-eq0
returns-then-entry-eq0 c =
    λ plant bundles are.
    own_source (setup_of plant bundles) c.args.device.0 c.args.frame.0 c.in-Some.entry c.in-Some.way (c.in-Some.ensures.found plant bundles are)
    c.if-entry-eq0.true

pub returns-else-entry-eq0 : goal.returns-else-entry-eq0
returns-else-entry-eq0 c =
    λ plant bundles are.
    its_source (setup_of plant bundles) c.args.device.0 c.args.frame.0 c.in-Some.entry c.in-Some.way (c.in-Some.ensures.found plant bundles are)
    c.if-entry-eq0.false
