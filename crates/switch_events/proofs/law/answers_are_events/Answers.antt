use Rattle.std.proofs.Common.{◌≡◌, suc, Some, slice_get, sym, subst}
use Rattle.std.specs.Prelude.{replicate}
use Rattle.std.proofs.lemmas.List.Elements.{All-replicate}
use Rattle.plan_rules.specs.Plan.{setup_of}
use Rattle.plan_rules.specs.Way.{IsInRange}
use Rattle.switch_events.proofs.Answers.{answer, start_rows, replicated}
use Rattle.switch_events.proofs.law.answers_are_events.Goals as goal

pub returns-clause-answers : goal.returns-clause-answers
returns-clause-answers c = λ plant bundles plan accepted row range k.
    answer plant bundles accepted row k
    (c.accepted_plans_can_be_played.ensures.entries plant bundles plan accepted)
    (c.accepted_plans_can_be_played.ensures.starts plant bundles plan accepted row k)
    (c.causes_happen.ensures.happen plant bundles plan accepted row range k)
    (λ from a cycle is step bundle r bridge held told takes.
    c.accepted_plans_are_switched.ensures.sent_on plant bundles plan accepted (replicate (suc k) row)
    (All-replicate (IsInRange (setup_of plant bundles)) (suc k) row range) row from a
    (subst (λ n. slice_get (replicate (suc k) row) n ≡ Some row) (sym cycle) (replicated row k)) is step bundle r bridge held told takes)

pub returns-clause-starts : goal.returns-clause-starts
returns-clause-starts c = λ plant bundles plan accepted row range k.
    start_rows plant bundles accepted row k
    (c.accepted_plans_can_be_played.ensures.entries plant bundles plan accepted)
    (c.accepted_plans_can_be_played.ensures.starts plant bundles plan accepted row k)
    (c.causes_happen.ensures.happen plant bundles plan accepted row range k)
