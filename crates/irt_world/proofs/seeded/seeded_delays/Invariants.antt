use Rattle.std.proofs.Common.{◌≡◌, ◌++◌, map, drop}
use Rattle.std.specs.List.{enumerate_from}
use Rattle.irt_world.specs.Seeded.{seeded_delay, seeded_delays}
use Rattle.irt_world.proofs.seeded.seeded_delays.Given as goal

abbrev pub invariant-loop-number : goal.invariant-loop-number
invariant-loop-number l =
    l.delays ++ map (λ p. seeded_delay l.seed l.cycle p.0 p.1) (enumerate_from l.number (drop l.number l.forwardings))
    ≡ seeded_delays l.seed l.cycle l.forwardings
