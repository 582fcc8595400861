use Rattle.std.proofs.Common.{◌∙◌}
use Rattle.record_reader.proofs.Grown.{last_follows}
use Rattle.record_reader.proofs.place.follows.Goals as goal

pub returns-in-Some : goal.returns-in-Some
returns-in-Some c =
    c.stands_up_to.ensures ∙ last_follows c.args.rows.now c.args.row c.in-Some.last.now c.in-Some.ensures.value
