use Rattle.std.proofs.Common.{rules}
use Rattle.gap_table.specs.Slots.{IsInserted}
use Rattle.gap_table.proofs.Ordered.{placed, stays_ordered}
use Rattle.gap_table.proofs.table.GapTable.insert.Goals as goal

inserted : (c : goal.In_ok-insert) → IsInserted c.args.slot c.self.inside.slots.items c.insert.new.self.items
inserted c =
    placed c.args.slot _ _ c.count_before-place.result c.self.invariant c.requires.valid (rw c.self.view_is c.requires.apart)
    (search rules) (search rules) (search rules) c.in_ok-insert.ensures.items

pub invariant_of-self-2 : goal.invariant_of-self-2
invariant_of-self-2 c = stays_ordered c.args.slot _ _ c.self.invariant c.requires.valid (inserted c)

pub returns-clause-ok : goal.returns-clause-ok
returns-clause-ok c = rw (← c.self.view_is) (inserted c)
