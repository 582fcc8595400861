use Rattle.std.proofs.Common.{◌≡◌, ◌<◌, ℕ, false}
use Rattle.link_index.specs.Index.{peer_in}
use Rattle.irt_route.specs.NextHops.{leads}
use Rattle.irt_route.proofs.next_hops.first_port.Given as goal

abbrev pub invariant-loop-port : goal.invariant-loop-port
invariant-loop-port l = (k : ℕ) → k < l.port → leads (peer_in l.index) l.table l.device.0 k ≡ false
