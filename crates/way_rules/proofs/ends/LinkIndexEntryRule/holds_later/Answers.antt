use Rattle.way_rules.proofs.RedTests.{ends-later}
use Rattle.way_rules.proofs.ends.LinkIndexEntryRule.holds_later.Goals as goal

pub returns : goal.returns
returns c = λ plant bundles plan device port frame past zero. ends-later plant bundles device port frame plan past
