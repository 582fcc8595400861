use Rattle.switch_events.proofs.Released.{begun}
use Rattle.switch_events.proofs.law.releases_are_first.Goals as goal

pub returns : goal.returns
returns c = λ plant bundles plan accepted row range k.
    begun plant bundles plan row k
    (c.accepted_plans_can_be_played.ensures.entries plant bundles plan accepted)
    (c.accepted_plans_can_be_played.ensures.starts plant bundles plan accepted row k)
    (λ device port bundle o held step is set. c.accepted_plans_are_switched.ensures.started plant bundles plan row k device port bundle o held step is set)
    (λ device port frame start bundle held s own. c.accepted_plans_are_switched.ensures.all_started plant bundles row k device port frame start bundle held s own)
