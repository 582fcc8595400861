use Rattle.std.proofs.Common.{take}
use Rattle.link_index.specs.Index.{peer_in}
use Rattle.irt_route.specs.Routes.{IsFirstPlace}
use Rattle.irt_route.proofs.Places.{IsUnreachedIn}
use Rattle.irt_route.proofs.unreached.unreached_of.Given as goal

abbrev pub invariant-loop-consumer : goal.invariant-loop-consumer
invariant-loop-consumer l = IsFirstPlace (IsUnreachedIn (peer_in l.network.index) l.demand (take l.consumer-index l.consumer-items)) l.first
