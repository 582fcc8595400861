use Rattle.std.proofs.Common.{◌≡◌, drop}
use Rattle.link_index.specs.Index.{peer_in}
use Rattle.irt_route.specs.Trees.{grown}
use Rattle.irt_route.proofs.trees.grow.Given as goal

abbrev pub invariant-loop-port : goal.invariant-loop-port
invariant-loop-port l = grown (peer_in l.index) l.at (drop l.port-index l.walk) l.parents ≡ grown (peer_in l.index) l.fn.start l.walk l.fn.parents
