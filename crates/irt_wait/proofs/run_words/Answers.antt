use Rattle.std.proofs.Common.{Err, subst}
use Rattle.irt_steps.proofs.EndedLemmas.{finishes}
use Rattle.irt_steps.proofs.StepLemmas.{halts_here}
use Rattle.irt_steps.specs.declared.stop.Stop.TheVariants as stops
use Rattle.irt_words.specs.Asked.{asked_of, texts_of}
use Rattle.irt_top.specs.Commands.{asked_steps}
use Rattle.irt_wait.specs.Free.{IsFreeOf}
use Rattle.irt_wait.proofs.run_words.Goals as goal

pub run_asked-requires : goal.run_asked-requires
run_asked-requires g c =
    (c.type_bounds.sync-R, subst (λ a. IsFreeOf a c.free_asked.result) c.in-Ok.ensures c.free_asked.ensures)

pub returns-in-Err-clause-ends : goal.returns-in-Err-clause-ends
returns-in-Err-clause-ends g c =
    let steps = asked_steps (asked_of (texts_of c.args.words.now)) in
    finishes steps (Err stops.NoMemory) _ _ _ _ _ _ _ (halts_here steps _) (tt {0}) c.finish.ensures
