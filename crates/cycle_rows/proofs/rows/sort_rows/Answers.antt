use Rattle.std.proofs.Common.{rules}
use Rattle.std.proofs.lemmas.List.Sorted.{answers_always}
use Rattle.cycle_rows.specs.Order.{key_of}
use Rattle.cycle_rows.proofs.Ordered.{sorted_in_order}
use Rattle.cycle_rows.proofs.rows.sort_rows.Goals as goal

pub returns-clause-order : goal.returns-clause-order
returns-clause-order c =
    sorted_in_order _ _ c.sort_unstable_by_key.ensures.permutation
    (c.sort_unstable_by_key.ensures.sorted key_of (answers_always _ _ _ (λ f a r g h. search rules)))
