use Rattle.std.proofs.Common.{◌≡◌, ◌≤◌, ◌*◌, take}
use Rattle.plant_rules.specs.Words.{provides, words_where}
use Rattle.record_reader.proofs.words.provided_words.Given as goal

abbrev pub invariant-loop-demand : goal.invariant-loop-demand
invariant-loop-demand l =
    (l.words ≡ words_where (provides l.device.0) (take l.demand-index l.demands)) × (l.words ≤ 8192 * l.demand-index)
