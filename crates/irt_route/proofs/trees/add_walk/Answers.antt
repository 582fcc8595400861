use Rattle.std.proofs.Common.{◌∙◌, ap}
use Rattle.smallvec.specs.SmallVec.{SmallVec}
use Rattle.irt_base.specs.declared.numbers.PortNo.{PortNo}
use Rattle.link_index.specs.Index.{peer_in}
use Rattle.irt_route.specs.Trees.{grown}
use Rattle.irt_route.proofs.Growth.{best_grows, found_best}
use Rattle.irt_route.proofs.trees.add_walk.Goals as goal

pub returns : goal.returns
returns c =
    let peers = peer_in c.args.index.now in
    best_grows peers c.args.start c.args.ways.now.target.0 c.in-Some.walk.items c.args.parents.now c.grow.new.parents c.requires.wired c.told-parents
    (found_best peers c.args.start.0 c.args.ways.now.target.0 (λ (w : SmallVec PortNo). w.items) c.in_ok-walk.field-0 c.in-Some.walk c.in-Some.is c.in_ok-walk.ensures)
    (c.grow.ensures ∙ ap (λ ps. grown peers c.args.start ps c.args.parents.now) c.as_slice.ensures)
