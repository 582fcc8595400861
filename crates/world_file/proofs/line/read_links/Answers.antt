use Rattle.world_file.proofs.Loops.{links_go_on}
use Rattle.world_file.proofs.line.read_links.Goals as goal

pub loop-preserved : goal.loop-preserved
loop-preserved c =
    links_go_on c.args.links _ c.loop.counter c.loop.draft _ c.loop.rest.now c.in_ok-number.number c.in_ok-number.after.now _ c.loop-test.true
    c.in_default.ensures c.in_ok-number.ensures c.in_ok-take_link.ensures c.loop.invariant
