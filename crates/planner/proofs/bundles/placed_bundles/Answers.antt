use Rattle.std.proofs.Common.{rules}
use Rattle.std.proofs.lemmas.List.Sorted.{IsNonDecreasingBy-from_sort_by_key}
use Rattle.fit_rules.specs.declared.frame_plan.FramePlan.{FramePlan}
use Rattle.planner.proofs.Bundled.{sorted_bundles}
use Rattle.planner.proofs.bundles.placed_bundles.Goals as goal

pub returns : goal.returns
returns c =
    let rise = IsNonDecreasingBy-from_sort_by_key (λ (p : FramePlan). p.frame.0) _ c.sort_unstable_by_key.ensures.sorted (λ a r q k. search rules) in
    sorted_bundles c.args.plant.now c.args.placed c.into_vec-plans.result.items _ c.as_slice.result.now c.bundles_of.result c.requires.holds c.requires.differ
    c.into_vec-plans.ensures c.sort_unstable_by_key.ensures.permutation rise c.as_slice.ensures.value c.bundles_of.ensures.plans
