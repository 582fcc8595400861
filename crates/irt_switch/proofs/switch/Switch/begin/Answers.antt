use Rattle.std.proofs.Common.{sym, ap, subst, refl}
use Rattle.irt_base.specs.declared.blocks.Bundle.{Bundle}
use Rattle.irt_switch.specs.Begin.{IsToRelease}
use Rattle.irt_switch.specs.Order.{still_due}
use Rattle.irt_switch.specs.State.{SwitchState}
use Rattle.irt_switch.proofs.Ordered.{to_release, begun_gates}
use Rattle.irt_switch.proofs.switch.Switch.begin.Goals as goal

pub returns : goal.returns
returns c =
    let same = ap (λ (v : SwitchState). v.bundle) c.self.view_is in record {
      bundle = same;
      cycle = refl;
      in_step = refl;
      release = subst (λ (b : Bundle). IsToRelease b c.args.k c.args.in_step (still_due c.args.in_step c.args.k 0 c.self.inside.provided.items)) same
          (to_release c.self.inside.bundle c.args.k c.args.in_step c.self.inside.provided.items c.self.invariant.order);
      gates = begun_gates _ _ _ _ _ _ _ _ same c.as_mut_slice.ensures.value (ap (λ (v : SwitchState). v.gates) c.self.view_is) (sym c.self.inside.gates.ok.0) c.begin_gates.ensures;
    }
