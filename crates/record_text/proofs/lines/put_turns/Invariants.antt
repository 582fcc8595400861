-- What is written and what is left are all lines.
use Rattle.std.proofs.Common.{◌≡◌, ◌++◌, drop}
use Rattle.record_text.specs.Text.{turn_lines}
use Rattle.record_text.proofs.lines.put_turns.Given as goal

abbrev pub invariant-loop-number : goal.invariant-loop-number
invariant-loop-number l =
    l.out.items ++ turn_lines l.plant l.device.0 l.number (drop l.number l.turns) ≡ l.fn.out.items ++ turn_lines l.plant l.device.0 0 l.turns
