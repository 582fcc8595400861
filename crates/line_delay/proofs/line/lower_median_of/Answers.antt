use Rattle.std.proofs.Common.{refl}
use Rattle.std.proofs.lemmas.List.Sorted.{IsNonDecreasingBy-from_sort}
use Rattle.line_delay.proofs.MedianLaw.{median_of_sorted}
use Rattle.line_delay.proofs.line.lower_median_of.Goals as goal

pub returns : goal.returns
returns c =
    let sorted = c.sort_unstable.new.self in
    median_of_sorted c.args.numbers.now sorted _ c.sort_unstable.ensures.permutation
    (IsNonDecreasingBy-from_sort (λ x. x) sorted c.sort_unstable.ensures.sorted) c.sort_unstable.ensures.len c.requires refl
