use Rattle.irt_route.proofs.RouteLaws.{routes_of_plant, fault_of_plant}
use Rattle.irt_route.proofs.routing.routes.Goals as goal

pub returns-clause-routes : goal.returns-clause-routes
returns-clause-routes c =
    routes_of_plant c.args.plant.now c.in_ok-index.index c.in_ok-network.network.index c.as_slice.result.now c.as_slice-2.result.now
    c.routes_of.result c.requires c.in_ok-index.ensures c.in_ok-network.ensures.index c.as_slice.ensures c.as_slice-2.ensures
    c.routes_of.ensures.trees c.routes_of.ensures.walks c.routes_of.ensures.reached

pub returns-clause-fault : goal.returns-clause-fault
returns-clause-fault c =
    fault_of_plant c.args.plant.now c.in_ok-index.index c.in_ok-network.network.index c.as_slice.result.now c.as_slice-2.result.now
    c.routes_of.result c.in_ok-index.ensures c.in_ok-network.ensures.index c.as_slice.ensures c.as_slice-2.ensures c.routes_of.ensures.fault
