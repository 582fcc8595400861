use Rattle.irt_window.proofs.Found.{trees_everywhere}
use Rattle.irt_window.proofs.NoWays.{few_bundles, marks_begin}
use Rattle.irt_window.proofs.trees.trees.Goals as goal

pub mark_all-requires-clause-marks : goal.mark_all-requires-clause-marks
mark_all-requires-clause-marks c = marks_begin c.args.net.now c.in_ok-marks.marks (few_bundles c.args.net.now.plant.now c.args.net.now.bundles.now c.requires.plan) c.in_ok-marks.ensures

pub windows_of-requires-clause-trees : goal.windows_of-requires-clause-trees
windows_of-requires-clause-trees c = trees_everywhere c.args.net.now.plant.now c.args.net.now.bundles.now c.in-None.ensures

pub returns : goal.returns
returns c = (trees_everywhere c.args.net.now.plant.now c.args.net.now.bundles.now c.in-None.ensures, c.in_ok-windows_of-in-None.ensures)
