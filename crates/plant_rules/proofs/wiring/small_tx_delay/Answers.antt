use Rattle.std.proofs.Common.{◌≤◌, subst, sym, ℕ}
use Rattle.irt_base.specs.declared.limits.TheConstants.{MAX_DELAY}
use Rattle.plant_rules.proofs.Delays.{tx_delay-small}
use Rattle.plant_rules.proofs.wiring.small_tx_delay.Goals as goal

pub returns-clause-small : goal.returns-clause-small
returns-clause-small c =
    subst (λ (n : ℕ). n ≤ MAX_DELAY) (sym c.tx_delay.ensures) (tx_delay-small c.args.plant.now c.args.device.0 c.args.port.0 c.requires)
