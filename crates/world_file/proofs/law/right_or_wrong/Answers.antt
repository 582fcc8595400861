use Rattle.world_file.proofs.RightOrWrong as files
use Rattle.world_file.proofs.law.right_or_wrong.Goals as goal

pub returns : goal.returns
returns c = files.right_or_wrong
