use Rattle.world_file.proofs.WholeFile as files
use Rattle.world_file.proofs.law.one_first_wrong.Goals as goal

pub returns-clause-one : goal.returns-clause-one
returns-clause-one c = files.one_first_wrong

pub returns-clause-none : goal.returns-clause-none
returns-clause-none c = files.none_wrong_in_a_file
