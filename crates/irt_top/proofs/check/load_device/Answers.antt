use Rattle.irt_top.proofs.CheckLemmas.{all_more}
use Rattle.irt_top.proofs.check.load_device.Goals as goal

pub returns-clause-valid : goal.returns-clause-valid
returns-clause-valid g c = all_more c.args.front _ _ c.in_ok-push.ensures.ok c.requires.valid c.in_ok-bundle.ensures.valid
