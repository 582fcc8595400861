use Rattle.std.proofs.Common.{sym, subst}
use Rattle.sync_world.specs.Domain.{IsDomain}
use Rattle.sync_world.proofs.Domains.{domain_is, domain_valid}
use Rattle.sync_world.proofs.domain.domain_of.Goals as goal

pub returns-clause-value : goal.returns-clause-value
returns-clause-value c = domain_is c.args.seed c.args.plant.now c.args.tree.now c.args.send c.in_ok-lines.lines c.in_ok-lines.ensures

pub returns-clause-valid : goal.returns-clause-valid
returns-clause-valid c =
    subst IsDomain (sym (domain_is c.args.seed c.args.plant.now c.args.tree.now c.args.send c.in_ok-lines.lines c.in_ok-lines.ensures))
    (domain_valid c.args.seed c.args.plant.now c.args.tree.now c.args.send c.requires.own c.in_ok-index.ensures.within c.requires.some_send c.requires.send)
