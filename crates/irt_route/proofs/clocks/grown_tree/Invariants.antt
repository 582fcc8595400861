use Rattle.link_index.specs.Index.{peer_in}
use Rattle.irt_route.specs.Clocks.{HasClocks}
use Rattle.irt_route.proofs.clocks.grown_tree.Given as goal

abbrev pub invariant-loop-device : goal.invariant-loop-device
invariant-loop-device l = HasClocks (peer_in l.index) l.device l.parents l.hops
