use Rattle.std.proofs.Common.{map, take}
use Rattle.irt_words.specs.Grammar.{IsLeaf, required_all, subcommand}
use Rattle.irt_words.proofs.grammar.subcommand.Given as goal

abbrev pub invariant-loop-argument : goal.invariant-loop-argument
invariant-loop-argument l = IsLeaf l.command (subcommand l.name (required_all (map (λ a. a.now) (take l.argument-index l.arguments))))
