use Rattle.planner.proofs.Rising.{AreCome}
use Rattle.planner.proofs.ends.raise_arrivals.Given as goal

abbrev pub invariant-loop-arrival : goal.invariant-loop-arrival
invariant-loop-arrival l = AreCome l.limits l.rate l.wire l.arrivals l.offsets l.arrival-index l.initial.ends l.ends
