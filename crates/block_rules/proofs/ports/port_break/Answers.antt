use Rattle.std.proofs.Common.{sym, subst}
use Rattle.plan_rules.specs.Places.{IsLeastOf, IsOf}
use Rattle.plan_rules.specs.declared.place.Place.{Place}
use Rattle.block_rules.specs.Scanning.{Holds}
use Rattle.block_rules.specs.declared.rules.BlockRule.TheVariants.{Periods}
use Rattle.block_rules.proofs.Least.{port_breaks}
use Rattle.block_rules.proofs.ports.port_break.Goals as goal

pub returns-in-Some : goal.returns-in-Some
returns-in-Some c =
    subst (λ (at : Place). IsLeastOf (IsOf c.args.device) (Holds (Periods c.args.rule) c.args.plant.now c.args.bundles.now) at) (sym c.new.ensures)
    (port_breaks c.args.rule c.args.plant.now c.args.bundles.now c.bundle_at-own.result.now c.args.device c.in-Some.port c.bundle_at-own.ensures c.in-Some.ensures)
