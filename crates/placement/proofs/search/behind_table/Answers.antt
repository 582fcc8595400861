use Rattle.std.proofs.Common.{subst}
use Rattle.gap_table.specs.Slots.{IsBlocker}
use Rattle.gap_table.specs.declared.slot.Slot.{Slot}
use Rattle.placement.proofs.Jumps.{behind_blocker}
use Rattle.placement.proofs.search.behind_table.Goals as goal

pub returns-in-Some : goal.returns-in-Some
returns-in-Some c =
    behind_blocker c.args.guard c.args.wire c.args.table.now c.args.sending c.args.offset c.in-Some.free c.requires.guard
    (subst (λ (s : Slot). IsBlocker c.args.guard s c.args.table.now c.in-Some.free) c.slot_of.ensures c.in-Some.ensures.blocked)
