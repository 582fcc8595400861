use Rattle.std.proofs.Common.{◌≡◌, ◌++◌, drop, map, filter}
use Rattle.irt_world.specs.Forwardings.{forwardings_at, forwarding_of, is_delayed}
use Rattle.irt_world.proofs.forwardings.push_at.Given as goal

abbrev pub invariant-loop-entry : goal.invariant-loop-entry
invariant-loop-entry l =
    l.made ++ map (forwarding_of l.number.0 l.device) (filter (is_delayed l.device) (drop l.entry-index l.fn.bundle.frames.entries))
    ≡ l.initial.made ++ forwardings_at l.number.0 l.device l.fn.bundle
