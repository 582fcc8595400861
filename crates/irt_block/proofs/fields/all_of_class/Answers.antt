use Rattle.std.proofs.Common.{◌∙◌, sym}
use Rattle.irt_block.proofs.Loops.{byte_passes, byte_fails}
use Rattle.irt_block.proofs.fields.all_of_class.Goals as goal

pub returns-then-not-has : goal.returns-then-not-has
returns-then-not-has c =
    rw c.fault.ensures
    (byte_fails c.args.class c.args.count c.loop-place.place c.args.extent c.args.rest.now _ c.loop-place-test.true c.requires.there c.requires.inside (sym c.has.ensures ∙ c.if-not-has.true) c.loop-place.invariant)

pub loop-place-preserved : goal.loop-place-preserved
loop-place-preserved c =
    byte_passes c.args.class c.args.count c.loop-place.place c.args.extent c.args.rest.now _ c.loop-place-test.true c.requires.there c.requires.inside (sym c.has.ensures ∙ c.if-not-has.false) c.loop-place.invariant
