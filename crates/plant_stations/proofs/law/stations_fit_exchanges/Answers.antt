use Rattle.plant_stations.proofs.Few.{few_inputs, few_outputs}
use Rattle.plant_stations.proofs.law.stations_fit_exchanges.Goals as goal

pub returns-clause-inputs : goal.returns-clause-inputs
returns-clause-inputs c = λ plant bundles plan accepted.
    few_inputs plant bundles plan accepted (c.stations_serve_demands.ensures.consumed plant bundles plan accepted)
    (c.stations_serve_demands.ensures.consumed_order plant bundles plan)

pub returns-clause-outputs : goal.returns-clause-outputs
returns-clause-outputs c = λ plant bundles plan accepted.
    few_outputs plant bundles plan accepted (c.stations_serve_demands.ensures.provided plant bundles plan accepted)
    (c.stations_serve_demands.ensures.provided_order plant bundles plan)
