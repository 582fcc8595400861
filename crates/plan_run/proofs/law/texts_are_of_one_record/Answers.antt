use Rattle.plan_run.proofs.OneText.{one_log}
use Rattle.plan_run.proofs.law.texts_are_of_one_record.Goals as goal

pub returns : goal.returns
returns c = one_log c.texts_determine_records.ensures
