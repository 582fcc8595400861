use Rattle.irt_words.specs.Asked.{texts_of}
use Rattle.irt_words.proofs.ReadingLemmas.{read_found, read_refused}
use Rattle.irt_words.proofs.reading.read_words.Goals as goal

pub returns-in-Ok : goal.returns-in-Ok
returns-in-Ok c = read_found _ (texts_of c.args.words.now) c.in-Ok.matches _ c.in_ok-irt_command.ensures c.in-Ok.ensures.matches c.in-Ok.ensures.kinds c.asked_by.ensures

pub returns-in-Err : goal.returns-in-Err
returns-in-Err c = read_refused _ (texts_of c.args.words.now) c.in-Err.error c.refused.result c.in_ok-irt_command.ensures c.in-Err.ensures.kinds c.refused.ensures
