use Rattle.line_delay.proofs.HonestLaw.{half_near, median_near, refused_near, known_near, one_more}
use Rattle.line_delay.proofs.MedianLaw.{one_median}
use Rattle.line_delay.proofs.honest.honest_law.Goals as goal

pub returns-clause-median : goal.returns-clause-median
returns-clause-median c = median_near half_near

pub returns-clause-refused : goal.returns-clause-refused
returns-clause-refused c = refused_near

pub returns-clause-known : goal.returns-clause-known
returns-clause-known c = known_near

pub returns-clause-more : goal.returns-clause-more
returns-clause-more c = one_more

pub returns-clause-only : goal.returns-clause-only
returns-clause-only c = one_median
