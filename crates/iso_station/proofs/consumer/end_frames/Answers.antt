use Rattle.std.proofs.Common.{◌∙◌, ap, sym, arith}
use Rattle.iso_station.specs.Held.{ended}
use Rattle.iso_station.proofs.InPlace.{map_step}
use Rattle.iso_station.proofs.consumer.end_frames.Goals as goal

pub loop-index-preserved : goal.loop-index-preserved
loop-index-preserved c =
    map_step (ended c.args.k) c.args.frames.now c.loop-index.frames c.loop-index.index c.index-frames-index.result c.end.new.self (omega arith)
    c.loop-index.invariant c.index-frames-index.is (c.end.ensures ∙ ap (ended c.args.k) (sym c.index-frames-index.is))
