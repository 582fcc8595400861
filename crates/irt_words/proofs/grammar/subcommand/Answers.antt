use Rattle.std.proofs.Common.{◌<◌, arith, length}
use Rattle.irt_words.proofs.GrammarLemmas.{leaf_at}
use Rattle.irt_words.proofs.grammar.subcommand.Goals as goal

pub loop-argument-preserved : goal.loop-argument-preserved
loop-argument-preserved c =
    let inside : c.loop-argument.argument-index < length c.args.arguments.now = omega arith in
    leaf_at c.loop-argument.command c.in_ok-command.command c.required.result c.args.name.now c.args.arguments.now c.loop-argument.argument-index _ inside
    c.loop-argument.invariant c.in_ok-command.ensures c.required.ensures.rule c.required.ensures.local
