use Rattle.std.proofs.Common.{rules}
use Rattle.free_plant.proofs.Taking.{all_taken, some_taken}
use Rattle.free_plant.proofs.locked.take_all.Goals as goal

pub returns-then-not-is_near : goal.returns-then-not-is_near
returns-then-not-is_near g c =
    let i = c.loop-app.invariant in
    some_taken g.N.Naming.start c.args.k c.args.ports.now.items c.loop-app.ports.items c.loop-app.buffers.items c.loop-app.app _ _ _ _ i.ports_count i.ready i.rest (search rules)
    c.index_mut-in-loop-app.ensures.value c.fill.ensures (search rules) (search rules) c.index_mut.ensures.value i.widths

pub returns : goal.returns
returns g c =
    let i = c.loop-app.invariant in
    all_taken g.N.Naming.start c.args.k c.args.ports.now.items c.loop-app.ports.items c.loop-app.buffers.items c.loop-app.app i.ports_count (search rules) i.ready (search rules) i.widths
