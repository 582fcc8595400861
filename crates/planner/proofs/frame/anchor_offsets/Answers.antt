use Rattle.std.proofs.Common.{◌≡◌, length, arith, refl}
use Rattle.std.proofs.lemmas.Option.{slice_get-get_or}
use Rattle.planner.proofs.Kept.{none_kept, one_kept, all_kept}
use Rattle.planner.proofs.frame.anchor_offsets.Goals as goal

pub loop-anchor-init : goal.loop-anchor-init
loop-anchor-init c = none_kept c.args.layout.now.anchors c.args.offsets.now

pub bounds-offsets-device : goal.bounds-offsets-device
bounds-offsets-device c =
    let inside = rw c.as_slice-anchor-items.ensures at c.loop-anchor-test.true in
    let known = c.requires.anchors c.loop-anchor.anchor-index _ (slice_get-get_or c.args.layout.now.anchors c.loop-anchor.anchor-index _ inside) in
    rw (c.from-device.ensures, c.as_slice-anchor-items.ensures) known.device

pub bounds-kept-device : goal.bounds-kept-device
bounds-kept-device c =
    let inside = rw c.as_slice-anchor-items.ensures at c.loop-anchor-test.true in
    let known = c.requires.anchors c.loop-anchor.anchor-index _ (slice_get-get_or c.args.layout.now.anchors c.loop-anchor.anchor-index _ inside) in
    rw (c.from-device.ensures, c.as_slice-anchor-items.ensures) known.device

pub loop-anchor-preserved : goal.loop-anchor-preserved
loop-anchor-preserved c =
    let inside = rw c.as_slice-anchor-items.ensures at c.loop-anchor-test.true in
    let known = c.requires.anchors c.loop-anchor.anchor-index _ (slice_get-get_or c.args.layout.now.anchors c.loop-anchor.anchor-index _ inside) in
    rw (c.from-device.ensures, c.as_slice-anchor-items.ensures)
    (one_kept c.args.layout.now.anchors c.args.offsets.now c.loop-anchor.anchor-index _ c.loop-anchor.kept _ inside known.device refl c.loop-anchor.invariant)

pub returns : goal.returns
returns c =
    let all : c.loop-anchor.anchor-index ≡ length c.args.layout.now.anchors =
    let long = rw c.as_slice-anchor-items.ensures at c.loop-anchor-test.false in
    let short = rw c.as_slice-anchor-items.ensures at c.loop-anchor.auto.anchor-index-end in
    omega (arith, long, short) in
    all_kept c.args.layout.now.anchors c.args.offsets.now c.loop-anchor.anchor-index c.loop-anchor.kept all c.loop-anchor.invariant
