use Rattle.std.proofs.Common.{◌≡◌, Some, length, get_or, slice_get, refl, arith}
use Rattle.std.proofs.lemmas.Option.{slice_get_read, slice_get-get_or}
use Rattle.plant_stations.proofs.Playing.{all_played, play_step}
use Rattle.plant_stations.proofs.stations.play_all.Goals as goal

pub loop-index-preserved : goal.loop-index-preserved
loop-index-preserved c =
    let count = c.loop-index.invariant.count in
    let outs = c.loop-index.invariant.outs in
    let i = c.loop-index.index in
    let out : slice_get c.loop-index.images i ≡ Some c.index-images-index.result =
    slice_get_read c.loop-index.images (length c.loop-index.images) i c.index-images-index.result refl (omega (arith, outs)) c.index-images-index.is in
    play_step c.args.apps.now c.args.frames.now c.args.came.now c.args.k c.args.receivers.now c.args.images.now c.loop-index.receivers c.loop-index.images
    i (get_or c.args.apps.now i _) (get_or c.loop-index.receivers i c.index-receivers-index.result) c.play.new.self c.index-images-index.result c.play.new.image
    c.loop-index.invariant (slice_get-get_or c.args.apps.now i _ (omega arith)) (slice_get-get_or c.loop-index.receivers i c.index-receivers-index.result (omega (arith, count))) out c.play.ensures

pub returns : goal.returns
returns c =
    all_played c.args.apps.now c.args.frames.now c.args.came.now c.args.k c.args.receivers.now c.args.images.now c.loop-index.receivers c.loop-index.images
    c.loop-index.index (omega arith) c.loop-index.invariant
