use Rattle.smallvec.specs.SmallVec.{SmallVec}
use Rattle.irt_base.specs.declared.numbers.PortNo.{PortNo}
use Rattle.link_index.specs.Index.{peer_in}
use Rattle.irt_route.proofs.Places.{item_again}
use Rattle.irt_route.proofs.Growth.{found_best, found_none}
use Rattle.irt_route.proofs.RouteLaws.{target_within, walks_more, first_cut}
use Rattle.irt_route.proofs.routing.traffic_walks.Goals as goal

pub walk-requires-clause-there : goal.walk-requires-clause-there
walk-requires-clause-there c = target_within _ c.args.entries.now c.loop-at.at _ c.requires.entries c.loop-at-test.true

pub returns-in_default-clause-fault : goal.returns-in_default-clause-fault
returns-in_default-clause-fault c =
    first_cut (peer_in c.args.network.now.index) c.args.entries.now c.loop-at.at _ _ c.loop-at-test.true
    (item_again c.args.entries.now c.loop-at.at _ c.loop-at-test.true) c.loop-at.invariant
    (found_none (peer_in c.args.network.now.index) _ _ (λ (w : SmallVec PortNo). w.items) c.in_ok-walk.field-0 c.in_default.is c.in_ok-walk.ensures)

pub loop-at-preserved : goal.loop-at-preserved
loop-at-preserved c =
    walks_more (SmallVec PortNo) (peer_in c.args.network.now.index) (λ w. w.items) c.args.entries.now c.loop-at.at _ c.loop-at.walks c.push.new.self
    c.in-Some.walk c.loop-at-test.true (item_again c.args.entries.now c.loop-at.at _ c.loop-at-test.true) c.loop-at.invariant
    (found_best (peer_in c.args.network.now.index) _ _ (λ (w : SmallVec PortNo). w.items) c.in_ok-walk.field-0 c.in-Some.walk c.in-Some.is
    c.in_ok-walk.ensures) c.in_ok-push.ensures.ok
