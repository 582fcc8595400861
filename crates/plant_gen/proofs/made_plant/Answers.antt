use Rattle.plant_gen.proofs.Meeting.{generated_meets}
use Rattle.plant_gen.proofs.made_plant.Goals as goal

pub returns-clause-rules : goal.returns-clause-rules
returns-clause-rules c =
    rw (c.in_ok-gen_devices.ensures, c.in_ok-gen_links.ensures, c.in_ok-gen_demands.ensures, c.new.ensures, c.new-2.ensures)
    (generated_meets c.args.seed c.args.devices c.args.frames c.requires.devices c.requires.frames)
