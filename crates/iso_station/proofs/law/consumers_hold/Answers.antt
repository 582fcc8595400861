use Rattle.iso_station.proofs.OverCycles.{held_image}
use Rattle.iso_station.proofs.law.consumers_hold.Goals as goal

pub returns : goal.returns
returns c = held_image
