use Rattle.std.proofs.Common.{◌≡◌, ◌+◌, map}
use Rattle.std.specs.List.{range_with_len}
use Rattle.sync_world.specs.Lines.{halves_after, known_by, passage_of}
use Rattle.sync_world.specs.declared.lines.TheConstants.{FIRST_EXCHANGES}
use Rattle.sync_world.proofs.lines.line_passages.Given as goal

abbrev pub invariant-loop-sync : goal.invariant-loop-sync
invariant-loop-sync l = record {
  line : l.line ≡ halves_after l.domain l.device.0 (FIRST_EXCHANGES + l.sync);
  known : l.known ≡ known_by l.line;
  passages : l.passages ≡ map (passage_of l.domain l.device.0) (range_with_len 0 l.sync);
}
