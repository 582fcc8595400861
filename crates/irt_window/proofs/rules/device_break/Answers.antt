use Rattle.std.proofs.Common.{arith, inl, inr, sym, subst, ℕ}
use Rattle.std.proofs.lemmas.Bool.{cases_lt, cases_eq}
use Rattle.plan_rules.specs.Tree.{IsInTree}
use Rattle.irt_window.specs.Plans.{setup_in}
use Rattle.irt_window.proofs.InTree.{off_frames}
use Rattle.irt_window.proofs.rules.device_break.Goals as goal

pub loop-frame-init : goal.loop-frame-init
loop-frame-init c = λ frame low. off_frames c.args.net.now c.args.device.0 frame c.requires.net (inl low)

pub loop-frame-preserved : goal.loop-frame-preserved
loop-frame-preserved c =
    λ frame less. elim (cases_eq frame c.loop-frame.frame) [
      | inl same ↦
          subst (λ (f : ℕ). IsInTree (setup_in c.args.net.now) c.args.device.0 f) (sym same) (c.holds_at.ensures.0 c.if-not-holds_at.false)
      | inr other ↦ c.loop-frame.invariant frame (omega arith)
    ]

pub returns : goal.returns
returns c =
    λ frame. elim (cases_lt frame c.loop-frame.frame) [
      | inl below ↦ c.loop-frame.invariant frame below
      | inr above ↦ off_frames c.args.net.now c.args.device.0 frame c.requires.net (inr (omega arith))
    ]
