use Rattle.std.proofs.Common.{take}
use Rattle.link_index.specs.Index.{peer_in}
use Rattle.irt_route.specs.Routes.{IsFirstPlace, IsUnreached}
use Rattle.irt_route.proofs.unreached.first_unreached.Given as goal

abbrev pub invariant-loop-demand : goal.invariant-loop-demand
invariant-loop-demand l = IsFirstPlace (IsUnreached (peer_in l.network.index) (take l.demand-index l.demands)) l.first
