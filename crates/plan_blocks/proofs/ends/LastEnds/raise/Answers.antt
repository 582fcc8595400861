use Rattle.std.proofs.Common.{◌≡◌, ℕ, subst, arith, rules}
use Rattle.irt_base.specs.declared.limits.TheConstants.{PHASES}
use Rattle.plan_blocks.specs.Ends.{Raises, IsDueEnd}
use Rattle.plan_blocks.proofs.Raising.{on_phase, off_phase}
use Rattle.plan_blocks.proofs.ends.LastEnds.raise.Goals.{then-due, else-due}
use Rattle.plan_blocks.proofs.ends.LastEnds.raise.Goals as goal

pub loop-k-preserved : goal.loop-k-preserved
loop-k-preserved c = elim c.if-due.branch [
  | then-due w ↦ rw w.self-is (on_phase c.args.rate c.args.device.0 c.args.port.0 c.args.end c.args.self.now c.loop-k.k c.loop-k.self _ (search rules)
      c.loop-k.invariant w.raise_in.ensures)
  | else-due w ↦ rw w.self-is (off_phase c.args.rate c.args.device.0 c.args.port.0 c.args.end c.args.self.now c.loop-k.k c.loop-k.self (search rules) c.loop-k.invariant)
]

pub returns : goal.returns
returns c =
    let all : c.loop-k.k ≡ PHASES = omega (arith, c.loop-k-test.false, c.loop-k.auto.k-end) in
    subst (λ (n : ℕ). Raises (IsDueEnd c.args.rate c.args.device.0 c.args.port.0 c.args.end n) c.args.self.now c.loop-k.self) all c.loop-k.invariant
