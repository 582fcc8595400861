use Rattle.std.proofs.Common.{◌≡◌, ◌==◌, ◌&&◌, arith}
use Rattle.std.proofs.lemmas.Bool.Decides.{nat_tests}
use Rattle.std.proofs.lemmas.Slice.Eq.{slice_eq-Decides}
use Rattle.std.specs.Bool.{Decides}
use Rattle.irt_base.specs.declared.blocks.PortDelay.{PortDelay}
use Rattle.block_rules.proofs.device.are_same.Goals as goal

-- two port's delays are the same where both numbers are
same_delays : (a b : PortDelay) → Decides (a.tx == b.tx && a.rx == b.rx) (a ≡ b)
same_delays a b = grind (arith, nat_tests)

pub returns : goal.returns
returns c = slice_eq-Decides same_delays c.args.own.now c.args.ports.now c.eq.result c.eq.ensures
