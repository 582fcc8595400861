use Rattle.way_rules.specs.Slots.{AreSlots}
use Rattle.way_rules.proofs.clash.slots_of.Given as goal

abbrev pub invariant-loop-index : goal.invariant-loop-index
invariant-loop-index l = AreSlots l.entries l.own_ways l.port.0 l.index l.slots
