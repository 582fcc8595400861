use Rattle.std.proofs.Common.{arith}
use Rattle.window_sweep.proofs.PairLaws.{pair_is_least, no_pair_is_clear}
use Rattle.window_sweep.proofs.pairs.first_clash_of_pairs.Goals as goal

pub returns-then-other-slots : goal.returns-then-other-slots
returns-then-other-slots c =
    let after = c.clash_after-other.ensures in
    pair_is_least c.args.window c.args.slots.now c.loop-place.place c.clash_after-other.result _ c.requires.valid after.after c.if-other-slots.true
    (after.found c.if-other-slots.true _) c.loop-place.invariant (λ k e above below. after.before k e above below)

pub returns : goal.returns
returns c =
    no_pair_is_clear c.args.window c.args.slots.now c.requires.valid
    (λ i j d before below inside. c.loop-place.invariant i j d (omega arith) below inside)
