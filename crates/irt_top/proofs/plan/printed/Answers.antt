use Rattle.plan_rules.specs.Places.{place_of}
use Rattle.irt_top.proofs.plan.printed.Goals as goal

pub print_plan-requires-clause-trees : goal.print_plan-requires-clause-trees
print_plan-requires-clause-trees c = λ device frame. c.requires.accepted 2 (place_of device 0 frame)
