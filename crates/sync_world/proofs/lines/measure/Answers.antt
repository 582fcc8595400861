use Rattle.sync_world.proofs.Median.{median_known}
use Rattle.sync_world.proofs.lines.measure.Goals as goal

pub returns-in-Ok-clause-known : goal.returns-in-Ok-clause-known
returns-in-Ok-clause-known c = median_known c.honest_law.ensures.only c.response.new.self c.in-Ok.median c.in-Ok.ensures.median
