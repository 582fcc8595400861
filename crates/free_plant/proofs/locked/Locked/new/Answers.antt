use Rattle.free_plant.proofs.Tying.{locked_first}
use Rattle.free_plant.proofs.locked.Locked.new.Goals as goal

pub invariant_of-result : goal.invariant_of-result
invariant_of-result g c =
    let r = c.requires in
    locked_first g.N.Naming.start c.args.plant c.args.ports.items c.args.buffers.items c.args.cycles r.run r.begun c.done-done.ensures.replay r.cycles r.few r.ports_count r.ports r.buffers_count r.buffers
