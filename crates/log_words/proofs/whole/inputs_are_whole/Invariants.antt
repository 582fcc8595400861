use Rattle.std.proofs.Common.{◌<◌, ℕ, get_or}
use Rattle.iso_rules.specs.Legal.{IsPublished, input_of}
use Rattle.iso_rules.specs.declared.turn.Turn.{Turn}
use Rattle.log_words.specs.Published.{after_zeros}
use Rattle.log_words.proofs.whole.inputs_are_whole.Given as goal

abbrev pub invariant-loop-turn : goal.invariant-loop-turn
invariant-loop-turn l =
    (k : ℕ) (d : Turn) → k < l.turn-index → IsPublished (after_zeros l.count l.images) (input_of (get_or l.turns k d))
