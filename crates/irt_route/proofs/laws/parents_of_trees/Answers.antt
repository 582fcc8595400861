use Rattle.irt_route.specs.Routes.{IsAmong}
use Rattle.irt_route.proofs.TreeLaws.{none_to_start}
use Rattle.irt_route.proofs.Fronts.{one_parent}
use Rattle.irt_route.proofs.laws.parents_of_trees.Goals as goal

pub returns : goal.returns
returns c =
    record {
      one = λ peers start ends. one_parent peers start (IsAmong ends);
      start = λ peers start ends from step. none_to_start peers start step.end from step.step;
    }
