use Rattle.world_file.proofs.WholeFile as files
use Rattle.world_file.proofs.law.one_world.Goals as goal

pub returns : goal.returns
returns c = files.one_world
