use Rattle.std.proofs.Common.{refl, ◌∙◌, ◌+◌, ap, arith}
use Rattle.sync_world.specs.Lines.{known_by, passage_of}
use Rattle.sync_world.specs.declared.lines.TheConstants.{FIRST_EXCHANGES}
use Rattle.sync_world.proofs.Exchanges.{measured_more}
use Rattle.sync_world.proofs.Made.{made_more}
use Rattle.sync_world.proofs.lines.line_passages.Goals as goal

pub passage_of-requires-clause-known : goal.passage_of-requires-clause-known
passage_of-requires-clause-known c =
    c.measure-known.ensures.known
    ∙ ap known_by (measured_more c.honest_law.ensures.more c.args.domain.now c.args.device.0 (FIRST_EXCHANGES + c.loop-sync.sync) _ _ _ refl
    c.measure-known.ensures.line c.loop-sync.invariant.line)

pub loop-sync-preserved : goal.loop-sync-preserved
loop-sync-preserved c = record {
  line = measured_more c.honest_law.ensures.more c.args.domain.now c.args.device.0 (FIRST_EXCHANGES + c.loop-sync.sync)
      (FIRST_EXCHANGES + (c.loop-sync.sync + 1)) _ _ (omega arith) c.measure-known.ensures.line c.loop-sync.invariant.line;
  known = c.measure-known.ensures.known;
  passages = made_more (passage_of c.args.domain.now c.args.device.0) c.loop-sync.sync c.loop-sync.passages _ c.passage_of.result _
      c.in_ok-push.ensures.ok refl c.loop-sync.invariant.passages c.passage_of.ensures;
}
