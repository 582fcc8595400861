use Rattle.plant_stations.proofs.Receiving.{none_came, count_kept}
use Rattle.plant_stations.proofs.receiver.take_frames.Goals as goal

pub loop-index-init : goal.loop-index-init
loop-index-init c = record { cycle = c.requires.cycle; takes = none_came c.args.device.0 c.args.frames.now c.args.consumer.now }

pub returns-clause-count : goal.returns-clause-count
returns-clause-count c = count_kept _ _ _ _ _ c.loop-index.invariant.takes
