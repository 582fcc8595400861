use Rattle.std.proofs.Common.{◌≡◌, ℕ, subst, arith, rules}
use Rattle.irt_base.specs.declared.limits.TheConstants.{PHASES}
use Rattle.placement.specs.Tables.{Adds}
use Rattle.placement.specs.Records.{IsDueSlot}
use Rattle.placement.proofs.Records.{off_phase, on_phase, clear_before}
use Rattle.placement.proofs.record.add_sending.Goals.{then-due+in_ok-insert, else-due}
use Rattle.placement.proofs.record.add_sending.Goals as goal

pub insert-requires-clause-apart : goal.insert-requires-clause-apart
insert-requires-clause-apart c =
    clear_before c.args.rate c.args.sending c.args.slot c.args.gaps.now c.loop-k.k c.loop-k.gaps
    (record { device_in = c.requires.sending.device; port_in = c.requires.sending.port; phase_in = c.loop-k-test.true })
    c.loop-k.invariant (c.requires.clear c.loop-k.k c.loop-k-test.true (search rules))

pub loop-k-preserved : goal.loop-k-preserved
loop-k-preserved c = elim c.if-due.branch [
  | then-due+in_ok-insert w ↦ rw w.gaps-is (on_phase c.args.rate c.args.sending c.args.slot c.args.gaps.now c.loop-k.k c.loop-k.gaps _ (search rules)
      c.loop-k.invariant w.in_ok-insert.ensures)
  | else-due w ↦ rw w.gaps-is (off_phase c.args.rate c.args.sending c.args.slot c.args.gaps.now c.loop-k.k c.loop-k.gaps (search rules) c.loop-k.invariant)
]

pub returns : goal.returns
returns c =
    let all : c.loop-k.k ≡ PHASES = omega (arith, c.loop-k-test.false, c.loop-k.auto.k-end) in
    subst (λ (n : ℕ). Adds (IsDueSlot c.args.rate c.args.sending c.args.slot n) c.args.gaps.now c.loop-k.gaps) all c.loop-k.invariant
