use Rattle.link_index.specs.Index.{peer_in}
use Rattle.irt_route.proofs.Follow.{under_way-more}
use Rattle.irt_route.proofs.walks.follow.Goals as goal

pub loop-link-preserved : goal.loop-link-preserved
loop-link-preserved c =
    under_way-more (peer_in c.args.index.now) c.args.start.0 c.loop-link.at.0 c.args.ways.now.target.0 c.args.hops c.loop-link._link
    c.loop-link.walk.items c.push.new.self.items c.first_step.result c.loop-link.invariant c.loop-link-test.true c.first_step.ensures
    c.in_ok-push.ensures.ok
