use Rattle.std.proofs.Common.{rules}
use Rattle.std.proofs.lemmas.List.Sorted.{IsNonDecreasingBy-from_sort_by_key}
use Rattle.window_sweep.specs.declared.slot.SendSlot.{SendSlot}
use Rattle.window_sweep.proofs.SweepLaws.{sorted_valid, sweeps_decide, copied, still_rises}
use Rattle.window_sweep.proofs.sweep.are_clear.Goals as goal

pub phases_are_clear-requires-clause-valid : goal.phases_are_clear-requires-clause-valid
phases_are_clear-requires-clause-valid c =
    sorted_valid c.args.slots.now _ c.requires.valid
    (copied _ _ _ _ c.in_ok-sorted.ensures.items c.as_slice.ensures.value c.sort_unstable_by_key.ensures.permutation)

pub returns : goal.returns
returns c =
    let rise = IsNonDecreasingBy-from_sort_by_key (λ (s : SendSlot). s.lo) _ c.sort_unstable_by_key.ensures.sorted (λ a r q k. search rules) in
    sweeps_decide c.args.window c.args.slots.now _ _ c.requires.valid
    (copied _ _ _ _ c.in_ok-sorted.ensures.items c.as_slice.ensures.value c.sort_unstable_by_key.ensures.permutation)
    (still_rises _ _ c.as_slice.ensures.value rise) c.phases_are_clear.ensures
