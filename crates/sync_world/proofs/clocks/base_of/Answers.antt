use Rattle.std.proofs.Common.{rules, ◌∙◌}
use Rattle.std.proofs.lemmas.Int.{to_z-of_z}
use Rattle.std.specs.Int.{w64}
use Rattle.sync_world.proofs.Bases.{base_is}
use Rattle.sync_world.proofs.clocks.base_of.Goals as goal

pub returns-clause-value : goal.returns-clause-value
returns-clause-value c =
    base_is c.args.domain.now c.args.table.now c.args.device.0 c.args.sync c.walk.result.now _ _ c.requires.valid
    c.requires.table c.base_by.ensures.value c.walk.ensures
    (to_z-of_z w64 c.ends_error-ends.result (search rules) ∙ c.ends_error-ends.ensures.value)
