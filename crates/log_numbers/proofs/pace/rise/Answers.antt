use Rattle.std.proofs.Common.{arith}
use Rattle.std.proofs.lemmas.Grind.{common_steps}
use Rattle.iso_rules.specs.declared.turn.Turn.{Turn}
use Rattle.log_numbers.proofs.Rising.{all_below}
use Rattle.log_numbers.proofs.pace.rise.Goals as goal

pub returns : goal.returns
returns c = all_below (λ (t : Turn). t.found) c.args.turns.now c.all.result (grind (arith, common_steps))
