use Rattle.std.proofs.Common.{◌≡◌, ℕ, length, subst, arith}
use Rattle.frame_ways.specs.Layout.{AreSendingsTo}
use Rattle.frame_ways.proofs.Sent.{none_sent}
use Rattle.frame_ways.proofs.layout.sendings_of.Goals as goal

pub loop-at-init : goal.loop-at-init
loop-at-init c = rw c.new-sendings.ensures (none_sent c.args.stops.now)

pub returns : goal.returns
returns c =
    let all : c.loop-at.at ≡ length c.args.stops.now = omega arith in
    subst (λ (n : ℕ). AreSendingsTo c.args.stops.now n 0 c.loop-at.sendings) all c.loop-at.invariant
