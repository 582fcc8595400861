use Rattle.std.proofs.Common.{◌≡◌, take, map}
use Rattle.iso_rules.specs.Station.{consumed_of}
use Rattle.iso_station.specs.Held.{new_held}
use Rattle.iso_station.proofs.consumer.new_frames.Given as goal

abbrev pub invariant-loop-entry : goal.invariant-loop-entry
invariant-loop-entry l = l.frames.items ≡ map new_held (consumed_of (take l.entry-index l.entries))
