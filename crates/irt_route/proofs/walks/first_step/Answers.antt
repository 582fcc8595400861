use Rattle.link_index.specs.Index.{peer_in}
use Rattle.irt_route.proofs.Follow.{first_step}
use Rattle.irt_route.proofs.walks.first_step.Goals as goal

pub returns : goal.returns
returns c =
    first_step (peer_in c.args.index.now) c.args.ways.now c.args.start c.port_of-port.result c.far_of-next.result c.way_of.result c.peer.result
    c.requires.ways c.way_of.ensures c.port_of-port.ensures c.peer.ensures c.far_of-next.ensures
