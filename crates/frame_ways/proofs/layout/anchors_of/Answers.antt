use Rattle.std.proofs.Common.{sym, ◌∙◌}
use Rattle.std.proofs.lemmas.Bool.{false≢true}
use Rattle.frame_ways.proofs.Anchored.{none_anchored, anchor_more, anchor_skipped}
use Rattle.frame_ways.proofs.Lists.{item_there}
use Rattle.frame_ways.proofs.layout.anchors_of.Goals.{then-is_starter+in_ok-push, else-is_starter}
use Rattle.frame_ways.proofs.layout.anchors_of.Goals as goal

pub loop-stop-init : goal.loop-stop-init
loop-stop-init c = rw c.new-anchors.ensures (none_anchored c.args.plant.now c.args.stops.now)

pub after_of-after-requires-clause-there : goal.after_of-after-requires-clause-there
after_of-after-requires-clause-there c =
    (c.requires.usable c.loop-stop.stop-index _ (item_there c.args.stops.now c.args.stops.now c.loop-stop.stop-index _ (λ i. c.args.stops.now) c.loop-stop-test.true)).there

pub after_of-after-requires-clause-small : goal.after_of-after-requires-clause-small
after_of-after-requires-clause-small c =
    (c.requires.usable c.loop-stop.stop-index _ (item_there c.args.stops.now c.args.stops.now c.loop-stop.stop-index _ (λ i. c.args.stops.now) c.loop-stop-test.true)).small

pub loop-stop-preserved : goal.loop-stop-preserved
loop-stop-preserved c =
    let there = item_there c.args.stops.now c.args.stops.now c.loop-stop.stop-index _ (λ i. c.args.stops.now) c.loop-stop-test.true in
    elim c.if-is_starter.branch [
      | then-is_starter+in_ok-push w ↦ rw (w.anchors-is, w.in_ok-push.ensures.ok) (anchor_more c.args.plant.now c.args.stops.now c.loop-stop.stop-index _ c.loop-stop.anchors there
          c.loop-stop.invariant c.requires.apart (c.requires.usable c.loop-stop.stop-index _ there) (c.is_starter.ensures.0 w.if-is_starter.true) _ w.after_of-after.ensures)
      | else-is_starter w ↦ rw w.anchors-is (anchor_skipped c.args.plant.now c.args.stops.now c.loop-stop.stop-index _ c.loop-stop.anchors there
          c.loop-stop.invariant (λ own. false≢true (sym w.if-is_starter.false ∙ c.is_starter.ensures.1 own)))
    ]
