use Rattle.link_index.proofs.Rows.{look_up-none, look_up-some, look_up-small}
use Rattle.link_index.proofs.index.LinkIndex.wire.Goals as goal

pub returns-in-None-clause-value : goal.returns-in-None-clause-value
returns-in-None-clause-value c = look_up-none _ _ _ _ _ c.self.view_is c.from.ensures c.in-None.ensures

pub returns-in-Some-clause-value : goal.returns-in-Some-clause-value
returns-in-Some-clause-value c =
    look_up-some _ _ _ _ _ _ _ _ c.self.view_is c.from.ensures c.from-in-Some.ensures c.in-Some.ensures c.wire_at.ensures

pub returns-in-Some-clause-small : goal.returns-in-Some-clause-small
returns-in-Some-clause-small c = look_up-small _ _ _ _ _ c.self.invariant c.in-Some.ensures c.wire_at.ensures
