-- Records of one text.
use Rattle.record_laws.proofs.Found.{record_found}
use Rattle.record_laws.proofs.law.texts_determine_records.Goals as goal

pub returns : goal.returns
returns c = record_found
