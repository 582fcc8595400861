use Rattle.std.proofs.lemmas.Result.{err_from_is_err_and}
use Rattle.link_index.specs.Index.{peer_in}
use Rattle.irt_route.proofs.RouteLaws.{reached, fault_with}
use Rattle.irt_route.proofs.routing.routes_of.Goals as goal

pub returns-in_err-walks-clause-fault : goal.returns-in_err-walks-clause-fault
returns-in_err-walks-clause-fault c =
    let p = err_from_is_err_and c.from_residual.result c.from_residual.ensures.1 in
    rw (p.1, p.2)
    (fault_with (peer_in c.args.network.now.index) c.args.demands.now c.args.entries.now c.in_err-walks.field-0.0
    (reached (peer_in c.args.network.now.index) c.args.network.now.ways c.args.demands.now c.requires.network c.requires.demands c.in_default.ensures)
    c.in_err-walks.ensures.fault)

pub returns-clause-reached : goal.returns-clause-reached
returns-clause-reached c =
    reached (peer_in c.args.network.now.index) c.args.network.now.ways c.args.demands.now c.requires.network c.requires.demands c.in_default.ensures
