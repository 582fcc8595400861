use Rattle.std.proofs.Common.{ap, length}
use Rattle.iso_free.proofs.Begin.{begun_none}
use Rattle.iso_free.proofs.parts.Parts.with_capacity.Goals as goal

pub returns-clause-begun : goal.returns-clause-begun
returns-clause-begun g c =
    begun_none g.N.Naming.start _ _ _ _ c.in_ok-with_capacity.ensures.items c.in_ok-with_capacity-2.ensures.items
    c.in_ok-with_capacity-3.ensures.items c.in_ok-with_capacity-4.ensures.items

pub returns-clause-none : goal.returns-clause-none
returns-clause-none g c = ap (λ l. length l) c.in_ok-with_capacity.ensures.items
