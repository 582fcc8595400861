use Rattle.std.proofs.Common.{arith, refl}
use Rattle.net_begin.specs.Begun.{HasSmallTimes}
use Rattle.net_begin.proofs.Devices.{none_released, one_released_by, have_released, fits_by, still}
use Rattle.net_begin.proofs.switches.release_all.Goals as goal

pub loop-index-init : goal.loop-index-init
loop-index-init c = none_released _ _ _

pub push_released-requires-clause-times : goal.push_released-requires-clause-times
push_released-requires-clause-times c =
    still HasSmallTimes _ _ _ _ _ _ _ c.index-switches-index.result c.loop-index.invariant (omega arith) refl c.requires.times

pub push_released-requires-clause-room : goal.push_released-requires-clause-room
push_released-requires-clause-room c =
    fits_by _ _ _ _ _ _ _ c.index-switches-index.result _ c.loop-index.invariant (omega arith) refl c.begin_event-begin.ensures.value c.requires.room

pub loop-index-preserved : goal.loop-index-preserved
loop-index-preserved c =
    one_released_by _ _ _ _ _ _ _ _ _ c.index-switches-index.result _ c.loop-index.invariant (omega arith) refl c.push_released.ensures.released
    c.begin_event-begin.ensures.value c.push_released.ensures.put c.push_released.ensures.room

pub returns-clause-put : goal.returns-clause-put
returns-clause-put c = (have_released _ _ _ _ _ _ c.loop-index.invariant (omega arith)).put

pub returns-clause-room : goal.returns-clause-room
returns-clause-room c = (have_released _ _ _ _ _ _ c.loop-index.invariant (omega arith)).room

pub returns-clause-released : goal.returns-clause-released
returns-clause-released c = (have_released _ _ _ _ _ _ c.loop-index.invariant (omega arith)).released
