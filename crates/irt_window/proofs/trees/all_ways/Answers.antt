use Rattle.irt_window.proofs.Found.{row_found}
use Rattle.irt_window.proofs.trees.all_ways.Goals as goal

pub row_ways-requires : goal.row_ways-requires
row_ways-requires c =
    row_found c.args.rows.now c.loop-row.row-index c.row-item.result c.as_slice.result.now c.requires c.loop-row-test.true c.row-item.is
    c.as_slice.ensures
