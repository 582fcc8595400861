use Rattle.irt_words.specs.declared.asked.Asked.TheVariants as words
use Rattle.irt_top.proofs.RunLemmas.{command_on}
use Rattle.irt_top.proofs.top.run_command.Goals as goal

pub returns-in-Sync-clause-step : goal.returns-in-Sync-clause-step
returns-in-Sync-clause-step g c = command_on c.args.asked (words.Sync c.in-Sync.plant c.in-Sync.cycles c.in-Sync.seed) _ _ _ c.in-Sync.is c.sync.ensures.step

pub returns-in-Run-clause-step : goal.returns-in-Run-clause-step
returns-in-Run-clause-step g c = command_on c.args.asked (words.Run c.in-Run.plant c.in-Run.cycles c.in-Run.seed) _ _ _ c.in-Run.is c.run.ensures.step

pub returns-in-RunWorld-clause-step : goal.returns-in-RunWorld-clause-step
returns-in-RunWorld-clause-step g c =
    command_on c.args.asked (words.RunWorld c.in-RunWorld.plant c.in-RunWorld.cycles c.in-RunWorld.world) _ _ _ c.in-RunWorld.is c.run-in-RunWorld.ensures.step
