use Rattle.std.proofs.lemmas.Bool.{iff_false}
use Rattle.way_rules.proofs.SlotLemmas.{timed_at, slots_skipped, slots_pushed}
use Rattle.way_rules.proofs.clash.slots_of.Goals as goal
use Rattle.way_rules.proofs.clash.slots_of.Goals.{then-leaves_by+in_ok-push, else-leaves_by}

pub slot_of-requires : goal.slot_of-requires
slot_of-requires c = timed_at c.args.entries.now c.args.own_ways.now c.loop-index.index _ _ c.requires c.loop-index-test.true

pub loop-index-preserved : goal.loop-index-preserved
loop-index-preserved c =
    elim c.if-leaves_by.branch [
      | then-leaves_by+in_ok-push w ↦ slots_pushed c.args.entries.now c.args.own_ways.now c.args.port.0 c.loop-index.index _ _ _ c.loop-index.slots
          w.push.new.self c.if-leaves_by.slots c.requires c.loop-index-test.true (c.leaves_by.ensures.0 w.if-leaves_by.true) c.loop-index.invariant
          w.slot_of.ensures w.in_ok-push.ensures.ok w.slots-is
      | else-leaves_by w ↦ slots_skipped c.args.entries.now c.args.own_ways.now c.args.port.0 c.loop-index.index _ c.loop-index.slots
          c.if-leaves_by.slots c.loop-index-test.true (iff_false c.leaves_by.ensures w.if-leaves_by.false) c.loop-index.invariant w.slots-is
    ]
