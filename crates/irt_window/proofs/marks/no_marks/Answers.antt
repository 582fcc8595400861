use Rattle.irt_window.proofs.NoWays.{begun_more}
use Rattle.irt_window.proofs.marks.no_marks.Goals as goal

pub loop-bundle-preserved : goal.loop-bundle-preserved
loop-bundle-preserved c =
    begun_more c.args.bundles.now c.loop-bundle.bundle-index c.loop-bundle.left c.len-count.result c.bundle-item.result c.loop-bundle.rows.items
    c.push.new.self.items c.in_ok-no_row.field-0 c.requires c.loop-bundle.invariant c.loop-bundle-test.true c.bundle-item.is c.len-count.ensures
    c.in_ok-push.ensures.items c.in_ok-no_row.ensures
