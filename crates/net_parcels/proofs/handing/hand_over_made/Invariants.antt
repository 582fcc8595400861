use Rattle.net_parcels.proofs.Folded.{HaveMade}
use Rattle.net_parcels.proofs.handing.hand_over_made.Given as goal

abbrev pub invariant-loop-number : goal.invariant-loop-number
invariant-loop-number l = HaveMade l.plant l.steps l.k l.fn.switches l.fn.notes l.switches l.notes l.number
