use Rattle.std.proofs.Common.{Some, subst}
use Rattle.irt_steps.proofs.EndedLemmas.{finishes}
use Rattle.irt_top.specs.Commands.{asked_steps, HasRanges}
use Rattle.irt_top.proofs.RangeLemmas.{asked_ranged}
use Rattle.irt_words.specs.Asked.{asked_of, texts_of}
use Rattle.irt_words.specs.Commands.{free}
use Rattle.irt_wait.proofs.WaitLemmas.{calm_ends, calm_kept, calm_same, free_ends, free_same}
use Rattle.irt_wait.proofs.run_asked.Goals as goal

pub run-ended-requires-clause-cycles : goal.run-ended-requires-clause-cycles
run-ended-requires-clause-cycles g c =
    let words = texts_of c.args.words.now in
    subst HasRanges (free_same (asked_of words) c.args.asked c.in-Some.own c.in-Some.is c.requires) (asked_ranged words)

pub returns-in-None-clause-ends : goal.returns-in-None-clause-ends
returns-in-None-clause-ends g c =
    let asked = asked_of (texts_of c.args.words.now) in
    calm_ends asked _ _ _ _ _ _ _ (calm_same asked c.args.asked c.in-None.is c.requires) c.irt_calm.ensures.ends

pub returns-in-None-clause-kept : goal.returns-in-None-clause-kept
returns-in-None-clause-kept g c =
    let asked = asked_of (texts_of c.args.words.now) in
    calm_kept asked _ _ (calm_same asked c.args.asked c.in-None.is c.requires) c.irt_calm.ensures.kept.stores_none

pub returns-in-Some-clause-ends : goal.returns-in-Some-clause-ends
returns-in-Some-clause-ends g c =
    let asked = asked_of (texts_of c.args.words.now) in
    let own = c.in-Some.own in
    let command = free own.plant.now own.cycles own.seed in
    free_ends asked command _ _ _ _ _ _ _ (free_same asked c.args.asked own c.in-Some.is c.requires)
    (finishes (asked_steps (Some command)) _ _ _ _ _ _ _ _ c.run-ended.ensures.step c.run-ended.ensures.cause c.finish.ensures)
