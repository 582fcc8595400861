use Rattle.std.proofs.Common.{◌<◌, ℕ, get_or, map}
use Rattle.io_buffers.specs.Given.{Given}
use Rattle.iso_rules.specs.Legal.{IsPublished}
use Rattle.iso_rules.specs.declared.turn.Turn.{Turn}
use Rattle.log_words.specs.Published.{after_zeros}
use Rattle.log_words.proofs.whole.takes_are_whole.Given as goal

abbrev pub invariant-loop-take : goal.invariant-loop-take
invariant-loop-take l =
    (k : ℕ) (d : Given) → k < l.take-index
    → IsPublished (after_zeros l.count (map (λ (t : Turn). t.output) l.turns)) (get_or l.takes k d)
