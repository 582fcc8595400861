use Rattle.irt_route.specs.Routes.{IsAmong}
use Rattle.irt_route.proofs.Fronts.{parent_chain, leaves}
use Rattle.irt_route.proofs.laws.chains_of_trees.Goals as goal

pub returns : goal.returns
returns c =
    record {
      chain = λ peers start ends. parent_chain peers start (IsAmong ends);
      leaves = λ peers start ends. leaves peers start (IsAmong ends);
    }
