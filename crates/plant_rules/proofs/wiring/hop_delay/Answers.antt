use Rattle.std.proofs.Common.{sym}
use Rattle.plant_rules.proofs.Delays.{link_delay-small}
use Rattle.plant_rules.proofs.wiring.hop_delay.Goals as goal

pub hop_over-requires-clause-delay : goal.hop_over-requires-clause-delay
hop_over-requires-clause-delay c =
    link_delay-small c.args.plant.now c.args.device.0 c.args.port.0 c.in-Some.link c.requires.rules (sym c.in-Some.ensures)
