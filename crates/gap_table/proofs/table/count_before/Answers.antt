use Rattle.std.proofs.Common.{ltb, rules}
use Rattle.std.proofs.lemmas.Bool.{ltb-true, ltb-false}
use Rattle.std.proofs.lemmas.List.Sorted.{IsPartitionedBy-ltb, IsPartitionPoint-from_clause}
use Rattle.gap_table.specs.declared.slot.Slot.{Slot}
use Rattle.gap_table.proofs.Ordered.{begins_rise}
use Rattle.gap_table.proofs.table.count_before.Goals as goal

pub returns-clause-before : goal.returns-clause-before
returns-clause-before c =
    let point = IsPartitionPoint-from_clause (λ (s : Slot). ltb s.lo c.args.time) _ _ c.partition_point.ensures.partitioned
    (IsPartitionedBy-ltb (λ (s : Slot). s.lo) _ _ (begins_rise _ c.requires)) (λ a r q k. search rules) in
    λ k d low high. ltb-true _ _ (point.0 k d low high)

pub returns-clause-from : goal.returns-clause-from
returns-clause-from c =
    let point = IsPartitionPoint-from_clause (λ (s : Slot). ltb s.lo c.args.time) _ _ c.partition_point.ensures.partitioned
    (IsPartitionedBy-ltb (λ (s : Slot). s.lo) _ _ (begins_rise _ c.requires)) (λ a r q k. search rules) in
    λ k d low high. ltb-false _ _ (point.1 k d low high)
