use Rattle.std.proofs.Common.{rules}
use Rattle.free_plant.proofs.Tying.{locked_more, locked_step, serves}
use Rattle.free_plant.proofs.locked.Locked.cycle.Goals as goal

pub invariant_of-self : goal.invariant_of-self
invariant_of-self g c = locked_more g.N.Naming.start c.self.inside.plant _ _ _ _ _ _ _ c.self.invariant c.take_all.ensures

pub step-requires-clause-ends : goal.step-requires-clause-ends
step-requires-clause-ends g c = serves g.N.Naming.start c.self.inside.plant c.take_all.new.buffers.items c.self.invariant.run c.take_all.ensures.buffers_count c.take_all.ensures.widths

pub invariant_of-self-2 : goal.invariant_of-self-2
invariant_of-self-2 g c =
    locked_step g.N.Naming.start c.self.inside.plant c.step.new.self c.self.inside.ports.items c.take_all.new.ports.items c.publish_all.new.ports.items
    c.self.inside.buffers.apps.items c.take_all.new.buffers.items c.step.new.ends.apps.items c.self.inside.cycles c.take_all.result
    c.self.invariant c.done-done.ensures.replay
    (search rules) (search rules) c.step.ensures (search rules)
