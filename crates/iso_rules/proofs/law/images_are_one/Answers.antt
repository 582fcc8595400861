use Rattle.plan_rules.specs.Once.{HasToReach}
use Rattle.iso_rules.proofs.Holding.{one_held, never_fallen}
use Rattle.iso_rules.proofs.Images.{one_image}
use Rattle.iso_rules.proofs.law.images_are_one.Goals as goal

pub returns-clause-cycles : goal.returns-clause-cycles
returns-clause-cycles c = λ setup world device k e. one_held (λ cycle. HasToReach setup world cycle device e.frame.0) e k

pub returns-clause-images : goal.returns-clause-images
returns-clause-images c = one_image

pub returns-clause-rising : goal.returns-clause-rising
returns-clause-rising c = λ setup world device k l e. never_fallen (λ cycle. HasToReach setup world cycle device e.frame.0) e k l
