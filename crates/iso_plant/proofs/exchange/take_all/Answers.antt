use Rattle.std.proofs.Common.{[]}
use Rattle.iso_plant.proofs.Taking.{all_taken, device_within, has_room, one_taken, out_fits, words_fit}
use Rattle.iso_plant.proofs.exchange.take_all.Goals as goal

pub bounds-outputs-device : goal.bounds-outputs-device
bounds-outputs-device g c =
    device_within _ _ _ _ _ _ _ _ _ _ c.index-histories-index.result [] c.requires c.loop-index.invariant c.loop-index-test.true c.from-device.ensures

pub take-requires-clause-room : goal.take-requires-clause-room
take-requires-clause-room g c =
    has_room _ _ _ _ _ _ _ _ _ _ c.index-histories-index.result [] c.requires c.loop-index.invariant c.loop-index-test.true c.from-device.ensures

pub take-requires-clause-out : goal.take-requires-clause-out
take-requires-clause-out g c =
    out_fits _ _ _ _ _ _ _ _ _ _ c.index-histories-index.result c.index-outputs-device.result c.requires c.loop-index.invariant c.loop-index-test.true c.from-device.ensures

pub take-requires-clause-words : goal.take-requires-clause-words
take-requires-clause-words g c =
    words_fit _ _ _ _ _ _ _ _ _ _ c.index-histories-index.result [] c.requires c.loop-index.invariant c.loop-index-test.true c.from-device.ensures

pub loop-index-preserved : goal.loop-index-preserved
loop-index-preserved g c =
    one_taken _ _ _ _ _ _ _ _ _ _ c.index-histories-index.result [] c.requires c.loop-index.invariant c.loop-index-test.true c.from-device.ensures
    _ _ _ c.take.ensures.history c.take.ensures.width c.take.ensures.words c.take.ensures.ends

pub returns : goal.returns
returns g c = all_taken _ _ _ _ _ _ _ _ c.requires c.loop-index-test.false c.loop-index.invariant
