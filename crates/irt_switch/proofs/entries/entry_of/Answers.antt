use Rattle.std.proofs.Common.{rules, ltb, sym, ◌∙◌}
use Rattle.std.proofs.lemmas.List.Sorted.{IsPartitionPoint-from_clause}
use Rattle.irt_base.specs.declared.blocks.Entry.{Entry}
use Rattle.irt_switch.proofs.Finding.{entry_at_point, none_at, some_at, other_at}
use Rattle.irt_switch.proofs.entries.entry_of.Goals as goal

pub returns-in_default : goal.returns-in_default
returns-in_default c =
    let found = entry_at_point c.args.frame.0 c.args.entries.now _ c.requires
    (λ parted. IsPartitionPoint-from_clause (λ (e : Entry). ltb e.frame.0 c.args.frame.0) _ _ c.partition_point-place.ensures.partitioned parted (λ a r q k. search rules)) in
    sym (found ∙ none_at c.args.frame.0 c.args.entries.now _ c.in_default.ensures.lookup.3)

pub returns-then-entry-frame : goal.returns-then-entry-frame
returns-then-entry-frame c =
    let found = entry_at_point c.args.frame.0 c.args.entries.now _ c.requires
    (λ parted. IsPartitionPoint-from_clause (λ (e : Entry). ltb e.frame.0 c.args.frame.0) _ _ c.partition_point-place.ensures.partitioned parted (λ a r q k. search rules)) in
    sym (found ∙ some_at c.args.frame.0 c.args.entries.now _ c.in-Some.entry.now c.in-Some.ensures.lookup.0 c.in-Some.ensures.lookup.1 c.if-entry-frame.true)

pub returns-else-entry-frame : goal.returns-else-entry-frame
returns-else-entry-frame c =
    let found = entry_at_point c.args.frame.0 c.args.entries.now _ c.requires
    (λ parted. IsPartitionPoint-from_clause (λ (e : Entry). ltb e.frame.0 c.args.frame.0) _ _ c.partition_point-place.ensures.partitioned parted (λ a r q k. search rules)) in
    sym (found ∙ other_at c.args.frame.0 c.args.entries.now _ c.in-Some.entry.now c.in-Some.ensures.lookup.0 c.in-Some.ensures.lookup.1 c.if-entry-frame.false)
