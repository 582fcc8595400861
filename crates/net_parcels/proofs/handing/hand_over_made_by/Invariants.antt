use Rattle.std.proofs.Common.{◌*◌, ◌/◌}
use Rattle.net_parcels.proofs.Folded.{HaveHanded, made_first}
use Rattle.net_parcels.proofs.handing.hand_over_made_by.Given as goal

abbrev pub invariant-loop-place : goal.invariant-loop-place
invariant-loop-place l =
    HaveHanded l.plant l.steps l.k l.fn.switches l.fn.notes l.switches l.notes
    (made_first l.number l.entry (l.k / l.entry.every * l.entry.count) l.place)
