use Rattle.iso_rules.proofs.Images.{arrived_part}
use Rattle.iso_rules.proofs.law.held_arrivals_are_parts.Goals as goal

pub returns : goal.returns
returns c = arrived_part
