use Rattle.std.proofs.Common.{◌≡◌, ◌++◌, take, drop, map}
use Rattle.iso_station.specs.Held.{ended}
use Rattle.iso_station.proofs.consumer.end_frames.Given as goal

abbrev pub invariant-loop-index : goal.invariant-loop-index
invariant-loop-index l = l.frames ≡ map (ended l.k) (take l.index l.fn.frames) ++ drop l.index l.fn.frames
