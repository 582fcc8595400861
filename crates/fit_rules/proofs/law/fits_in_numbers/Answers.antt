use Rattle.fit_rules.specs.Order.{parents_of}
use Rattle.fit_rules.proofs.Delayed.{clear_in_numbers, ready_in_numbers}
use Rattle.fit_rules.proofs.Known.{known}
use Rattle.fit_rules.proofs.Once.{same_ready}
use Rattle.fit_rules.proofs.Placing.{routed_at}
use Rattle.fit_rules.proofs.law.fits_in_numbers.Goals as goal

pub returns-clause-clear : goal.returns-clause-clear
returns-clause-clear c = clear_in_numbers

pub returns-clause-ready : goal.returns-clause-ready
returns-clause-ready c = ready_in_numbers

pub returns-clause-one_ready : goal.returns-clause-one_ready
returns-clause-one_ready c = λ plant routes index demand are at. same_ready plant (parents_of routes index) demand (routed_at
    (known c.ways_are_one.ensures.mutual c.ways_are_one.ensures.parents c.ways_are_one.ensures.windows
    c.parents_of_trees.ensures.one c.parents_of_trees.ensures.start c.chains_of_trees.ensures.chain c.chains_of_trees.ensures.leaves) plant routes index demand are at)
