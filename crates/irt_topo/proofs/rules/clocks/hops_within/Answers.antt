use Rattle.std.proofs.Common.{◌≡◌, false, sym, ◌∙◌}
use Rattle.irt_topo.specs.Clocks.{is_reached}
use Rattle.irt_topo.proofs.LeastFrom.{least_fails}
use Rattle.irt_topo.proofs.Rounds.{Shows-more}
use Rattle.irt_topo.proofs.rules.clocks.hops_within.Goals as goal

pub loop-rounds-preserved : goal.loop-rounds-preserved
loop-rounds-preserved c =
    let plant = c.args.plant.now in
    let (found, shows) = c.loop-rounds.invariant in
    let fails : is_reached plant c.loop-rounds.rounds c.args.device ≡ false =
    sym (shows c.args.device c.requires) ∙ c.if-reached-device.false in (
      sym (least_fails (λ rounds. is_reached plant rounds c.args.device) c.loop-rounds.rounds _ c.loop-rounds-test.true fails) ∙ found,
      Shows-more plant c.loop-rounds.rounds c.loop-rounds.reached c.spread.new.reached c.as_slice.result.now c.as_slice.ensures shows
          c.spread.ensures.reached c.spread.ensures.small,
    )
