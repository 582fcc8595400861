use Rattle.link_index.specs.Index.{peer_in}
use Rattle.irt_route.proofs.NextHopLaws.{HasRounds}
use Rattle.irt_route.proofs.next_hops.next_hops_to.Given as goal

abbrev pub invariant-loop-rounds : goal.invariant-loop-rounds
invariant-loop-rounds l = HasRounds (peer_in l.index) l.target.0 l.rounds l.table
