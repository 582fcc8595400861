use Rattle.irt_route.proofs.ClockLaws.{tree_answer, fault_answer}
use Rattle.irt_route.proofs.clocks.clock_tree_by.Goals as goal

pub returns-clause-tree : goal.returns-clause-tree
returns-clause-tree c =
    tree_answer c.args.plant.now c.args.index.now c.len.result c.grown_tree.result c.requires.rules c.requires.index c.len.ensures c.grown_tree.ensures.tree

pub returns-clause-fault : goal.returns-clause-fault
returns-clause-fault c =
    fault_answer c.args.plant.now c.args.index.now c.len.result c.grown_tree.result c.requires.index c.len.ensures c.grown_tree.ensures.fault
