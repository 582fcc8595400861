use Rattle.std.proofs.Common.{◌≡◌}
use Rattle.sync_world.specs.Lines.{halves_after, known_by}
use Rattle.sync_world.proofs.lines.first_exchanges.Given as goal

abbrev pub invariant-loop-exchange : goal.invariant-loop-exchange
invariant-loop-exchange l = record {
  line : l.line ≡ halves_after l.domain l.device.0 l.exchange;
  known : l.known ≡ known_by l.line;
}
