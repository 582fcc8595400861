use Rattle.irt_base.specs.Wiring.{peer_of}
use Rattle.plan_run.proofs.OneWorld.{one_world, cycles_of}
use Rattle.plan_run.proofs.Reached.{one_list_of_walks}
use Rattle.plan_run.proofs.law.worlds_and_walks_are_one.Goals as goal

pub returns-clause-worlds : goal.returns-clause-worlds
returns-clause-worlds c = λ plant bundles seed cycles world other is also.
    one_world c.ptcp_worlds_are_one.ensures plant.clocks plant bundles seed cycles world other is.rows also.rows

pub returns-clause-walks : goal.returns-clause-walks
returns-clause-walks c = λ plant. one_list_of_walks c.fronts_of_best_walks.ensures.one (peer_of plant) plant.traffic

pub returns-clause-cycles : goal.returns-clause-cycles
returns-clause-cycles c = λ plant bundles seed cycles world is. cycles_of plant.clocks plant bundles seed cycles world is.rows
