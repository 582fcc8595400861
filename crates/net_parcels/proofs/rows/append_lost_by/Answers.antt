use Rattle.std.proofs.Common.{[]}
use Rattle.net_parcels.proofs.Links.{lost_none, lost_all, lost_fits}
use Rattle.net_parcels.proofs.rows.append_lost_by.Goals as goal

pub append_all_lost-requires : goal.append_all_lost-requires
append_all_lost-requires c =
    lost_fits c.args.site.now.plant c.args.row.now c.args.outlet.now c.args.k _ (c.if-not-is_uncut.ensures [] 0) c.requires

pub returns-then-not-is_uncut-clause-rows : goal.returns-then-not-is_uncut-clause-rows
returns-then-not-is_uncut-clause-rows c =
    (lost_all c.args.site.now.plant c.args.row.now c.args.outlet.now c.args.k _ _ (c.if-not-is_uncut.ensures [] 0) c.append_all_lost.ensures.rows c.append_all_lost.ensures.room).rows

pub returns-then-not-is_uncut-clause-room : goal.returns-then-not-is_uncut-clause-room
returns-then-not-is_uncut-clause-room c =
    (lost_all c.args.site.now.plant c.args.row.now c.args.outlet.now c.args.k _ _ (c.if-not-is_uncut.ensures [] 0) c.append_all_lost.ensures.rows c.append_all_lost.ensures.room).room

pub returns-else-not-is_uncut-clause-rows : goal.returns-else-not-is_uncut-clause-rows
returns-else-not-is_uncut-clause-rows c =
    (lost_none c.args.site.now.plant c.args.row.now c.args.outlet.now c.args.k c.args.journal.now (c.if-not-is_uncut.ensures [] 0)).rows

pub returns-else-not-is_uncut-clause-room : goal.returns-else-not-is_uncut-clause-room
returns-else-not-is_uncut-clause-room c =
    (lost_none c.args.site.now.plant c.args.row.now c.args.outlet.now c.args.k c.args.journal.now (c.if-not-is_uncut.ensures [] 0)).room
