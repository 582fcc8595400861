use Rattle.std.proofs.Common.{◌≡◌, take}
use Rattle.std.specs.List.{flat_map}
use Rattle.irt_show.specs.Show.{pair_text}
use Rattle.irt_show.proofs.lines.pairs_text.Given as goal

abbrev pub invariant-loop-pair : goal.invariant-loop-pair
invariant-loop-pair l = l.text.items ≡ flat_map pair_text (take l.pair-index l.pairs)
