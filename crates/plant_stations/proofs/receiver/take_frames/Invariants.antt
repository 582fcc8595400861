use Rattle.std.proofs.Common.{◌≡◌, take}
use Rattle.plant_stations.specs.Taken.{TakesFrames}
use Rattle.plant_stations.proofs.receiver.take_frames.Given as goal

abbrev pub invariant-loop-index : goal.invariant-loop-index
invariant-loop-index l = record {
  cycle : l.k ≡ l.consumer.cycle;
  takes : TakesFrames l.device.0 l.frames (take l.index l.came) l.fn.consumer l.consumer;
}
