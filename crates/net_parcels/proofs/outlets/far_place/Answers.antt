use Rattle.std.proofs.Common.{◌∙◌}
use Rattle.net_parcels.proofs.Placing.{far_there}
use Rattle.net_parcels.proofs.outlets.far_place.Goals as goal

pub place_of-requires : goal.place_of-requires
place_of-requires c =
    far_there c.args.site.now.plant c.requires.rules c.args.ports.now c.requires.ports c.args.at c.in_ok-far.far
    (c.in_ok-far.ensures ∙ c.links.ensures.peers c.args.at.0.0 c.args.at.1.0)
