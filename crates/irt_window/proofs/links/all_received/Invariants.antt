use Rattle.std.proofs.Common.{ℕ, ◌<◌}
use Rattle.plan_rules.specs.Tree.{IsReceiver}
use Rattle.plan_rules.specs.Way.{Leaves}
use Rattle.irt_window.specs.Plans.{setup_in}
use Rattle.irt_window.proofs.links.all_received.Given as goal

abbrev pub invariant-loop-port : goal.invariant-loop-port
invariant-loop-port l =
    (port : ℕ) → port < l.port → Leaves l.entry port → IsReceiver (setup_in l.net) l.entry.frame.0 l.device.0 port
