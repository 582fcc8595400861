use Rattle.std.proofs.Common.{sym, ◌∙◌, arith}
use Rattle.std.proofs.lemmas.Bool.{false≢true}
use Rattle.frame_ways.proofs.Lists.{item_there, some_at}
use Rattle.frame_ways.proofs.Sent.{sent_more, sent_skipped, sent_all}
use Rattle.frame_ways.proofs.layout.add_sendings.Goals.{then-leaves_by+in_ok-push, else-leaves_by}
use Rattle.frame_ways.proofs.layout.add_sendings.Goals as goal

pub loop-port-preserved : goal.loop-port-preserved
loop-port-preserved c =
    let there = item_there c.args.stops.now c.args.stops.now c.args.at _ (λ i. c.args.stops.now) c.requires.there in
    elim c.if-leaves_by.branch [
      | then-leaves_by+in_ok-push w ↦ rw (w.sendings-is, w.in_ok-push.ensures.ok) (sent_more c.args.stops.now c.args.at c.loop-port.port _ c.loop-port.sendings there
          c.loop-port.invariant c.requires.apart (c.leaves_by.ensures.0 w.if-leaves_by.true))
      | else-leaves_by w ↦ rw w.sendings-is (sent_skipped c.args.stops.now c.args.at c.loop-port.port _ c.loop-port.sendings there
          c.loop-port.invariant (λ out. false≢true (sym w.if-leaves_by.false ∙ c.leaves_by.ensures.1 out)))
    ]

pub returns : goal.returns
returns c =
    let (stop, there) = some_at c.args.stops.now c.args.at c.requires.there in
    sent_all c.args.stops.now c.args.at c.loop-port.port stop c.loop-port.sendings there c.loop-port.invariant (omega arith) (c.requires.low c.args.at stop there)
