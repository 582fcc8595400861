use Rattle.irt_route.proofs.WalkLaws.{same_best}
use Rattle.irt_route.proofs.Fronts.{best_front}
use Rattle.irt_route.proofs.laws.fronts_of_best_walks.Goals as goal

pub returns : goal.returns
returns c = record { one = same_best; fronts = best_front }
