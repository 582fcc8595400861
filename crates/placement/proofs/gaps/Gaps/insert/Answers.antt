use Rattle.placement.proofs.Tables.{added}
use Rattle.placement.proofs.gaps.Gaps.insert.Goals as goal

pub returns : goal.returns
returns c =
    rw (← c.self.view_is) (added c.insert.result c.self.inside.tables.items c.args.device.0 c.args.port.0 c.args.phase c.place.result c.args.slot
    c.index_mut.result.now c.insert.new.self c.self.invariant c.requires.there c.place.ensures.value c.index_mut.ensures.value c.insert.ensures.ok)
