use Rattle.std.proofs.Common.{sym, ◌∙◌}
use Rattle.link_index.specs.Index.{peer_in}
use Rattle.irt_route.proofs.NextHopLaws.{first_rounds, more_rounds, closed_rounds}
use Rattle.irt_route.proofs.next_hops.next_hops_to.Goals as goal

pub loop-rounds-init : goal.loop-rounds-init
loop-rounds-init c = first_rounds (peer_in c.args.index.now) c.args.target.0 c.first_table-table.result c.requires.there c.first_table-table.ensures

pub returns-then-unreached-clause-ways : goal.returns-then-unreached-clause-ways
returns-then-unreached-clause-ways c =
    closed_rounds (peer_in c.args.index.now) c.args.target.0 c.loop-rounds.rounds c.loop-rounds.table c.spread-next.result c.requires.wired
    c.loop-rounds.invariant c.spread-next.ensures.length c.spread-next.ensures.next
    (sym c.unreached.ensures ∙ c.if-unreached.true ∙ c.unreached-in-loop-rounds.ensures)

pub loop-rounds-preserved : goal.loop-rounds-preserved
loop-rounds-preserved c =
    more_rounds (peer_in c.args.index.now) c.args.target.0 c.loop-rounds.rounds c.loop-rounds.table c.spread-next.result c.requires.wired
    c.requires.there c.loop-rounds.invariant c.spread-next.ensures.length c.spread-next.ensures.next
    (λ same. c.if-unreached.false (c.unreached.ensures ∙ same ∙ sym c.unreached-in-loop-rounds.ensures))
