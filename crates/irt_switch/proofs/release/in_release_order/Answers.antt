use Rattle.std.proofs.Common.{rules}
use Rattle.std.proofs.lemmas.List.Sorted.{answers_always}
use Rattle.irt_switch.specs.Order.{key_of}
use Rattle.irt_switch.proofs.Ordered.{release_order}
use Rattle.irt_switch.proofs.release.in_release_order.Goals as goal

pub returns : goal.returns
returns c =
    release_order c.args.entries.now c.in_ok-provided.provided.items _ c.requires c.in_ok-provided.ensures c.sort_unstable_by_key.ensures.permutation
    (c.sort_unstable_by_key.ensures.sorted key_of (answers_always _ _ _ (λ f a r g h. search rules)))
