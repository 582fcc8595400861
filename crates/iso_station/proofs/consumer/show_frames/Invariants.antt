use Rattle.std.proofs.Common.{◌≡◌, take}
use Rattle.std.specs.List.{flat_map}
use Rattle.iso_station.specs.Consumer.{count_of}
use Rattle.iso_station.specs.Held.{shown}
use Rattle.iso_station.proofs.consumer.show_frames.Given as goal

abbrev pub invariant-loop-held : goal.invariant-loop-held
invariant-loop-held l = record {
  start : l.start ≡ count_of (take l.held-index l.frames);
  whole : take l.start l.out ≡ flat_map shown (take l.held-index l.frames);
}
