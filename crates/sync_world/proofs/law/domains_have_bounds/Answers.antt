use Rattle.sync_world.proofs.Bounds.{clock_bounded, measured_near}
use Rattle.sync_world.proofs.law.domains_have_bounds.Goals as goal

pub returns-clause-known : goal.returns-clause-known
returns-clause-known c = measured_near c.honest_law.ensures.only c.honest_law.ensures.known

pub returns-clause-clock : goal.returns-clause-clock
returns-clause-clock c = λ domain device cycle valid.
    (clock_bounded (measured_near c.honest_law.ensures.only c.honest_law.ensures.known) domain device cycle valid).within
