use Rattle.placement.proofs.Offsets.{none_placed, item_there, is_after, ready_small, on_none, no_offsets, next_offset}
use Rattle.placement.proofs.phases.placed_offsets.Goals as goal

pub loop-anchor-init : goal.loop-anchor-init
loop-anchor-init c = none_placed c.args.limits c.args.rate c.args.layout.now c.args.gaps.now

pub ready_after-ready-requires-clause-after : goal.ready_after-ready-requires-clause-after
ready_after-ready-requires-clause-after c =
    is_after c.args.layout.now c.requires.layout c.loop-anchor.anchor-index _
    (item_there _ _ c.loop-anchor.anchor-index _ c.as_slice-anchor-items.ensures c.loop-anchor-test.true)

pub least_offset-requires-clause-ready : goal.least_offset-requires-clause-ready
least_offset-requires-clause-ready c =
    let there = item_there _ _ c.loop-anchor.anchor-index _ c.as_slice-anchor-items.ensures c.loop-anchor-test.true in
    rw c.ready_after-ready.ensures
    (ready_small c.loop-anchor.offsets _ c.loop-anchor.invariant.long c.loop-anchor.invariant.small (is_after c.args.layout.now c.requires.layout c.loop-anchor.anchor-index _ there))

pub returns-in_err-offset-clause-none : goal.returns-in_err-offset-clause-none
returns-in_err-offset-clause-none c =
    let there = item_there _ _ c.loop-anchor.anchor-index _ c.as_slice-anchor-items.ensures c.loop-anchor-test.true in
    on_none c.from_residual.result _
    (no_offsets c.args.limits c.args.rate c.args.layout.now c.args.gaps.now c.requires.layout c.loop-anchor.anchor-index _ c.loop-anchor.offsets there
    c.loop-anchor.invariant (rw c.ready_after-ready.ensures at c.in_err-offset.ensures.none))

pub bounds-offsets-from : goal.bounds-offsets-from
bounds-offsets-from c =
    let there = item_there _ _ c.loop-anchor.anchor-index _ c.as_slice-anchor-items.ensures c.loop-anchor-test.true in
    let known = c.requires.layout.anchors c.loop-anchor.anchor-index _ there in
    rw c.from.ensures known.device

pub loop-anchor-preserved : goal.loop-anchor-preserved
loop-anchor-preserved c =
    let there = item_there _ _ c.loop-anchor.anchor-index _ c.as_slice-anchor-items.ensures c.loop-anchor-test.true in
    rw c.from.ensures
    (next_offset c.args.limits c.args.rate c.args.layout.now c.args.gaps.now c.requires.layout c.loop-anchor.anchor-index c.in_ok-offset.offset _
    c.loop-anchor.offsets c.requires.limits there c.loop-anchor.invariant (rw c.ready_after-ready.ensures at c.in_ok-offset.ensures.found))
