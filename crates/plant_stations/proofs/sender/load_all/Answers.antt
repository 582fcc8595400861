use Rattle.std.proofs.Common.{◌≡◌, Some, length, slice_get, refl, sym, ◌∙◌, ap, arith}
use Rattle.std.proofs.lemmas.Option.{slice_get_read}
use Rattle.plant_stations.proofs.Senders.{fits_now, sent_step, all_sent}
use Rattle.plant_stations.proofs.sender.load_all.Goals as goal

pub load-requires-clause-places : goal.load-requires-clause-places
load-requires-clause-places c =
    let at : slice_get c.args.senders.now c.loop-index.index ≡ Some c.index-senders-index.result =
    slice_get_read c.args.senders.now (length c.args.senders.now) c.loop-index.index c.index-senders-index.result refl (omega arith) c.index-senders-index.is in
    fits_now c.args.senders.now c.args.k c.args.outputs.now c.args.frames.now c.loop-index.frames c.loop-index.index c.index-senders-index.result
    c.requires.ready c.loop-index.invariant at

pub load-requires-clause-apart : goal.load-requires-clause-apart
load-requires-clause-apart c =
    let at : slice_get c.args.senders.now c.loop-index.index ≡ Some c.index-senders-index.result =
    slice_get_read c.args.senders.now (length c.args.senders.now) c.loop-index.index c.index-senders-index.result refl (omega arith) c.index-senders-index.is in
    c.requires.ready.apart c.loop-index.index c.index-senders-index.result at

pub loop-index-preserved : goal.loop-index-preserved
loop-index-preserved c =
    let count = c.requires.ready.count in
    let at : slice_get c.args.senders.now c.loop-index.index ≡ Some c.index-senders-index.result =
    slice_get_read c.args.senders.now (length c.args.senders.now) c.loop-index.index c.index-senders-index.result refl (omega arith) c.index-senders-index.is in
    let told : slice_get c.args.outputs.now c.loop-index.index ≡ Some c.index-outputs-index.result =
    slice_get_read c.args.outputs.now (length c.args.outputs.now) c.loop-index.index c.index-outputs-index.result refl (omega (arith, count)) c.index-outputs-index.is in
    sent_step c.args.senders.now c.args.k c.args.outputs.now c.args.frames.now c.loop-index.frames c.load.new.frames c.loop-index.index
    c.index-senders-index.result c.as_slice.result.now c.requires.ready at (told ∙ ap Some (sym c.as_slice.ensures)) c.loop-index.invariant
    c.load.ensures.loaded c.load.ensures.range

pub returns : goal.returns
returns c =
    all_sent c.args.senders.now c.args.k c.args.outputs.now c.args.frames.now c.loop-index.frames c.loop-index.index (omega arith) c.loop-index.invariant
