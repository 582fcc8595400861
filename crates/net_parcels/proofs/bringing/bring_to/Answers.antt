use Rattle.std.proofs.Common.{[]}
use Rattle.net_parcels.proofs.Links.{over_cut, over_uncut}
use Rattle.net_parcels.proofs.bringing.bring_to.Goals as goal

pub returns-then-is_uncut-clause-flight : goal.returns-then-is_uncut-clause-flight
returns-then-is_uncut-clause-flight c =
    over_uncut c.args.site.now.plant c.args.row.now c.args.outlet.now _ _ _ c.in-Some.far.now _ c.in-Some.ensures (c.if-is_uncut.ensures [] 0)
    c.as_slice.ensures.sent c.bring.ensures

pub returns-else-is_uncut-clause-flight : goal.returns-else-is_uncut-clause-flight
returns-else-is_uncut-clause-flight c =
    over_cut c.args.site.now.plant c.args.row.now c.args.outlet.now _ _ c.in-Some.far.now c.in-Some.ensures (c.if-is_uncut.ensures [] 0)
