use Rattle.std.proofs.Common.{take}
use Rattle.net_parcels.proofs.Folded.{HaveHanded}
use Rattle.net_parcels.proofs.handing.hand_over_flight.Given as goal

abbrev pub invariant-loop-place : goal.invariant-loop-place
invariant-loop-place l =
    HaveHanded l.plant l.steps l.k l.fn.switches l.fn.notes l.switches l.notes (take l.place l.flight.handed)
