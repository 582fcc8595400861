use Rattle.world_file.proofs.WholeFile.{exact_answer, only_answer}
use Rattle.world_file.proofs.reading.read_world.Goals as goal

pub returns-clause-only : goal.returns-clause-only
returns-clause-only c =
    only_answer c.args.plant.now c.args.bundles.now c.args.cycles c.args.bytes.now c.read_rows.result c.requires.plan c.read_rows.ensures.found c.read_rows.ensures.refused

pub returns-clause-exact : goal.returns-clause-exact
returns-clause-exact c =
    exact_answer c.args.plant.now c.args.bundles.now c.args.cycles c.args.bytes.now c.read_rows.result c.requires.plan c.read_rows.ensures.found c.read_rows.ensures.refused
