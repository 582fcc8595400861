use Rattle.std.proofs.Common.{arith, inl, inr, sym, subst, ℕ}
use Rattle.std.proofs.lemmas.Bool.{cases_lt, cases_eq}
use Rattle.plan_rules.specs.Tree.{IsInTree}
use Rattle.irt_window.specs.Plans.{setup_in}
use Rattle.irt_window.proofs.InTree.{off_devices}
use Rattle.irt_window.proofs.rules.first_break.Goals as goal

pub loop-device-preserved : goal.loop-device-preserved
loop-device-preserved c =
    λ device frame less. elim (cases_eq device c.loop-device.device) [
      | inl same ↦ subst (λ (d : ℕ). IsInTree (setup_in c.args.net.now) d frame) (sym same) (c.in_default.ensures frame)
      | inr other ↦ c.loop-device.invariant device frame (omega arith)
    ]

pub returns : goal.returns
returns c =
    λ at. elim (cases_lt at.device.0 c.loop-device.device) [
      | inl below ↦ c.loop-device.invariant at.device.0 at.frame below
      | inr above ↦ off_devices c.args.net.now at.device.0 at.frame c.requires.net (omega arith)
    ]
