use Rattle.iso_rules.proofs.Recent.{past_image, same_image}
use Rattle.iso_rules.proofs.Spacing.{spaced}
use Rattle.iso_rules.proofs.law.images_rest_on_recent_cycles.Goals as goal

pub returns-clause-past : goal.returns-clause-past
returns-clause-past c = past_image

pub returns-clause-recent : goal.returns-clause-recent
returns-clause-recent c = λ plant bundles plan accepted.
    same_image plant bundles plan (c.accepted_plans_can_be_played.ensures.alike plant bundles plan accepted)

pub returns-clause-spaced : goal.returns-clause-spaced
returns-clause-spaced c = spaced
