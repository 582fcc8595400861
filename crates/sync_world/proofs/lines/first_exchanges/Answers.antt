use Rattle.std.proofs.Common.{refl, ◌∙◌}
use Rattle.sync_world.proofs.Exchanges.{halves_none, measured_more}
use Rattle.sync_world.proofs.Median.{known_none}
use Rattle.sync_world.proofs.lines.first_exchanges.Goals as goal

pub loop-exchange-init : goal.loop-exchange-init
loop-exchange-init c = record {
  line = c.requires.none ∙ halves_none c.args.domain.now c.args.device.0;
  known = known_none c.args.line.now c.requires.none;
}

pub loop-exchange-preserved : goal.loop-exchange-preserved
loop-exchange-preserved c = record {
  line = measured_more c.honest_law.ensures.more c.args.domain.now c.args.device.0 c.loop-exchange.exchange _ _ _ refl
      c.measure-known.ensures.line c.loop-exchange.invariant.line;
  known = c.measure-known.ensures.known;
}
