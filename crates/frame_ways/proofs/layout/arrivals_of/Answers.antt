use Rattle.std.proofs.Common.{sym, ◌∙◌, ap}
use Rattle.std.specs.Prelude.{◌++◌, ◌∷◌, []}
use Rattle.frame_ways.specs.declared.stops.Stop.{Stop}
use Rattle.frame_ways.proofs.Lists.{next_given, next_none}
use Rattle.frame_ways.proofs.layout.arrivals_of.Goals.{in-None, in-Some+in_ok-push-in-Some}
use Rattle.frame_ways.proofs.layout.arrivals_of.Goals as goal

pub loop-stop-preserved : goal.loop-stop-preserved
loop-stop-preserved c = elim c.match-stop.branch [
  | in-None w ↦ w.arrivals-is ∙ c.loop-stop.invariant
      ∙ sym (next_none (λ (s : Stop). s.arrival) c.args.stops.now c.loop-stop.stop-index _ c.loop-stop-test.true (sym w.in-None.is))
  | in-Some+in_ok-push-in-Some w ↦ w.arrivals-is ∙ w.in_ok-push-in-Some.ensures.ok ∙ ap (λ xs. xs ++ w.in-Some.arrival ∷ []) c.loop-stop.invariant
      ∙ sym (next_given (λ (s : Stop). s.arrival) c.args.stops.now c.loop-stop.stop-index _ w.in-Some.arrival c.loop-stop-test.true (sym w.in-Some.is))
]
