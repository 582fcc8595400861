use Rattle.std.proofs.Common.{leb, ◌-◌, arith, rules}
use Rattle.std.proofs.lemmas.Bool.{leb-true}
use Rattle.std.proofs.lemmas.List.Sorted.{IsPartitionedBy-leb, IsPartitionPoint-from_clause}
use Rattle.gap_table.specs.declared.slot.Slot.{Slot}
use Rattle.gap_table.proofs.Ordered.{ends_rise, ended_before}
use Rattle.gap_table.proofs.table.count_ended.Goals as goal

pub returns-clause-ended : goal.returns-clause-ended
returns-clause-ended c =
    let point = IsPartitionPoint-from_clause (λ (s : Slot). leb s.end (c.args.time - c.args.guard)) _ _ c.partition_point.ensures.partitioned
    (IsPartitionedBy-leb (λ (s : Slot). s.end) _ _ (ends_rise _ c.requires.ordered)) (λ a r q k. search rules) in
    λ k d low high. ended_before c.args.slots.now k d c.args.guard c.args.time c.requires.ordered (omega (arith, high, c.partition_point.ensures.bound)) (leb-true _ _ (point.0 k d low high))
